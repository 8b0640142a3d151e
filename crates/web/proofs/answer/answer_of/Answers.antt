use Rattle.std.proofs.Common.{◌∙◌}
use Rattle.web.proofs.AnswerBytes.{answer_whole}
use Rattle.web.proofs.answer.answer_of.Goals as goal

pub returns : goal.returns
returns c = answer_whole c.args.status c.args.kind.now c.args.body.now _ _ _ _ _ _
    c.in_ok-out.ensures c.in_ok-push_header.ensures (c.as_bytes.ensures.value ∙ c.format.ensures.text)
    c.in_ok-push_header-2.ensures
    c.in_ok-extend_from_slice.ensures.items c.in_ok-extend_from_slice-2.ensures.items
