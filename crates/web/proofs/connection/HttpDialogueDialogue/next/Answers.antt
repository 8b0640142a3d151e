use Rattle.std.proofs.Common.{Bool, List, false, length, rules, subst, sym, true, ℕ, ◌++◌, ◌<◌, ◌≡◌, ◌∙◌, ◌∷◌, []}
use Rattle.std.proofs.lemmas.List.{nil_from_length}
use Rattle.web.specs.Intake.{IsMessageAt}
use Rattle.web.specs.Messages.{AwaitsMessage, HasNoMessage, IsUnreadable, unreadable, whole}
use Rattle.web.specs.Turns.{HasFound, IsAsked, NoneComes}
use Rattle.web.proofs.NoHead.{at_end}
use Rattle.web.proofs.Parts.{all_ended, all_over, fewer_left, found_bad, found_come, found_first, found_message, found_over}
use Rattle.web.proofs.connection.HttpDialogueDialogue.next.Goals as goal

pub returns-then-self-clause-over : goal.returns-then-self-clause-over
returns-then-self-clause-over c = λ e read ended questions (same, found, first).
    let all =
    found_over c.args.self.now.is_over c.args.self.now.held.items read ended questions
    (all_over _ _ _ c.if-self.true) found in
    ((same, found, first), all.0, all.1)

pub returns-in-Message-clause-question : goal.returns-in-Message-clause-question
returns-in-Message-clause-question c = λ question e read ended questions (same, found, first).
    let (within, m, is) = c.in-Message.ensures in
    let at = subst (λ s. IsMessageAt s c.in-Message.found m) c.deref.ensures.value is in
    let next : HasFound c.take_message.new.self.is_over c.take_message.new.self.held.items read ended
    (questions ++ whole m ∷ []) =
    rw (c.take_message.ensures.over, c.take_message.ensures.behind)
    (found_message c.args.self.now.is_over _ _ read ended questions m c.if-self.false at.begins found) in (
      whole m,
      subst (λ q. IsAsked q (whole m)) (cc e) (c.take_message.ensures.asked m at),
      (c.take_message.ensures.ended ∙ same, next, found_first _ _ _ _ _ next),
    )

pub returns-in-Message-clause-fewer : goal.returns-in-Message-clause-fewer
returns-in-Message-clause-fewer c = λ question e.
    let (within, m, is) = c.in-Message.ensures in
    let at = subst (λ s. IsMessageAt s c.in-Message.found m) c.deref.ensures.value is in
    rw (c.take_message.ensures.over, c.take_message.ensures.behind)
    (fewer_left c.args.self.now.is_over _ _ m c.if-self.false at.begins)

pub returns-in-More-clause-more : goal.returns-in-More-clause-more
returns-in-More-clause-more c = λ e read ended questions (same, found, first).
    let going : c.args.self.now.has_ended ≡ false = search rules in (
      (same, found, first),
      sym same ∙ going,
      found_come c.args.self.now.is_over c.args.self.now.held.items read ended questions c.if-self.false
          (subst AwaitsMessage c.deref.ensures.value c.in-More.ensures.0) found,
    )

pub returns-in-More-2-clause-over : goal.returns-in-More-2-clause-over
returns-in-More-2-clause-over c = λ e read ended questions (same, found, first).
    let end : c.args.self.now.has_ended ≡ true = search rules in
    let size : length c.args.self.now.held.items ≡ 0 = search rules in
    let all =
    found_over c.args.self.now.is_over c.args.self.now.held.items read ended questions
    (all_ended _ _ _ c.if-self.false (nil_from_length _ size) (sym same ∙ end)) found in
    ((same, found, first), all.0, all.1)

-- what is held when the input has ended is no message
pub returns-in-More-3-clause-question : goal.returns-in-More-3-clause-question
returns-in-More-3-clause-question c = λ question e read ended questions (same, found, first).
    let end : c.args.self.now.has_ended ≡ true = search rules in
    let some : 0 < length c.args.self.now.held.items = search rules in
    let none : NoneComes ended c.args.self.now.held.items =
    subst (λ (b : Bool). NoneComes b c.args.self.now.held.items) (sym end ∙ same)
    (at_end _ some (subst HasNoMessage c.deref.ensures.value c.in-More-2.ensures.0.0)) in
    let next : HasFound c.end_unreadable.new.self.is_over c.end_unreadable.new.self.held.items read ended
    (questions ++ unreadable ∷ []) =
    rw (c.end_unreadable.ensures.over, c.end_unreadable.ensures.held)
    (found_bad c.args.self.now.is_over _ read ended questions c.if-self.false none found) in (
      unreadable,
      subst (λ q. IsAsked q unreadable) (sym c.end_unreadable.ensures.asked ∙ cc e) tt,
      (c.end_unreadable.ensures.ended ∙ same, next, found_first _ _ _ _ _ next),
    )

pub returns-in-Unreadable-clause-question : goal.returns-in-Unreadable-clause-question
returns-in-Unreadable-clause-question c = λ question e read ended questions (same, found, first).
    let none : NoneComes ended c.args.self.now.held.items =
    λ more end.
    subst (λ (t : List ℕ). IsUnreadable (t ++ more)) c.deref.ensures.value (c.in-Unreadable.ensures more) in
    let made = c.end_unreadable-in-Unreadable in
    let next : HasFound made.new.self.is_over made.new.self.held.items read ended (questions ++ unreadable ∷ []) =
    rw (made.ensures.over, made.ensures.held)
    (found_bad c.args.self.now.is_over _ read ended questions c.if-self.false none found) in (
      unreadable,
      subst (λ q. IsAsked q unreadable) (sym made.ensures.asked ∙ cc e) tt,
      (made.ensures.ended ∙ same, next, found_first _ _ _ _ _ next),
    )
