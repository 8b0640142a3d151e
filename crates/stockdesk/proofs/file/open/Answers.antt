use Rattle.keep.specs.Content.{newest}
use Rattle.stockdesk.proofs.file.open.Goals as goal

pub returns-in_ok-open_path-in-File-clause-opened : goal.returns-in_ok-open_path-in-File-clause-opened
returns-in_ok-open_path-in-File-clause-opened g c = record {
  going = c.in_ok-open_path-in-File.ensures.going;
  held = λ clean x there. c.in_ok-open_path-in-File.ensures.found clean newest there.0 x there.1 there.2;
  alone = λ clean x there. c.in_ok-open_path-in-File.ensures.alone clean x
      (c.in_ok-open_path-in-File.ensures.found clean newest there.0 x there.1 there.2);
}

pub returns-in_ok-open_path-in-File-clause-old : goal.returns-in_ok-open_path-in-File-clause-old
returns-in_ok-open_path-in-File-clause-old g c clean version x there =
    c.in_ok-open_path-in-File.ensures.found clean version there.0 x there.1 there.2

pub returns-in_ok-open_path-in-File-clause-shown : goal.returns-in_ok-open_path-in-File-clause-shown
returns-in_ok-open_path-in-File-clause-shown g c = c.in_ok-open_path-in-File.ensures.shown
