use Rattle.stockdesk.proofs.file.init.Goals as goal

pub returns-clause-made : goal.returns-clause-made
returns-clause-made g c = c.make.ensures.made
