use Rattle.std.proofs.Common.{List, Some, inl, rules, subst, sym, ℕ, ◌≡◌, ◌∙◌, codes}
use Rattle.std.proofs.lemmas.Result.{IfOk-weaker}
use Rattle.httparse.specs.Spans.{span_bytes}
use Rattle.web.specs.Asks.{AsksFor}
use Rattle.web.specs.Reads.{IsCallOf}
use Rattle.web.specs.Routes.{resource_of}
use Rattle.web.specs.declared.route.Resource.TheVariants.{Commands}
use Rattle.web.proofs.SomeAsk.{asks_as_read, asks_nothing, no_call, view_asked}
use Rattle.web.proofs.ask.ask_of.Goals.{else-eq-2-via-then-eq-2+else-takes_commands, else-eq-2-via-else-eq-2}
use Rattle.web.proofs.ask.ask_of.Goals as goal

pub returns-then-eq : goal.returns-then-eq
returns-then-eq c = λ m at.
    let get : span_bytes c.args.held.now c.args.found.now.method ≡ codes "GET" = search rules in
    subst (AsksFor m) (sym c.unwrap_or.ensures)
    (view_asked m c.in-Ok.target.now c.view_of.result (c.in-Ok.ensures.cases.0 ∙ at.target_is)
    (sym at.method_is ∙ get) c.view_of.ensures.some c.view_of.ensures.none)

pub returns-then-takes_commands : goal.returns-then-takes_commands
returns-then-takes_commands c =
    let post : span_bytes c.args.held.now c.args.found.now.method ≡ codes "POST" = search rules in
    let commands = c.takes_commands.ensures.0 c.if-takes_commands.true in
    IfOk-weaker c.call_of.result _ _ (λ a h m at.
    asks_as_read m a (inl (
      sym at.method_is ∙ post,
      subst (λ (t : List ℕ). resource_of t ≡ Some Commands) (c.in-Ok.ensures.cases.0 ∙ at.target_is) commands,
      subst (λ (body : List ℕ). IsCallOf body a) at.body_is h,
    ))) c.call_of.ensures

pub returns : goal.returns
returns c = λ m at.
    asks_nothing m (no_call m
    (λ get. let is = at.method_is ∙ get in let e = rw (is, c.as_slice.ensures) at c.if-eq.ensures in cc e)
    (λ (post, to). elim c.else-eq-2.branch [
      | else-eq-2-via-then-eq-2+else-takes_commands w ↦
          let e =
          w.takes_commands.ensures.1 (subst (λ (t : List ℕ). resource_of t ≡ Some Commands)
          (sym (c.in-Ok.ensures.cases.0 ∙ at.target_is)) to) in
          let f = rw w.if-takes_commands.false at e in
          cc f
      | else-eq-2-via-else-eq-2 w ↦
          let is = at.method_is ∙ post in let e = rw (is, c.as_slice-2.ensures) at w.if-eq-2.ensures in cc e
    ]))
