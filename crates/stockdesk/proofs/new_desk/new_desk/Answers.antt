use Rattle.stockdesk.proofs.new_desk.new_desk.Goals as goal

pub returns-clause-made : goal.returns-clause-made
returns-clause-made g c = c.filled_desk.ensures.made
