-- What is planned for a request.
use Rattle.std.specs.Prelude.{◌≡◌, IsSome}
use Rattle.words.specs.declared.command.Request.{Request}
use Rattle.words.specs.declared.reply.Reply.TheVariants as reply
use Rattle.ledger.specs.Answers.{Answers}
use Rattle.ledger.specs.Ledger.{Ledger, kept_under}
use Rattle.book.specs.Plans.{Fits}
use Rattle.book.specs.declared.book.plan.Planned.{Planned}
use Rattle.book.specs.declared.book.plan.Planned.TheVariants.{Accept, Again, Refused}

-- What is planned for a request is the model's answer to it: done already, refused, or accepted with a plan that fits.
abbrev pub Plans : Ledger → Request → Planned → Type 0
Plans A r (Again place) = IsSome (kept_under A r.key) × Answers A r (reply.Done place) A
Plans A r (Refused refusal line) = Answers A r (reply.Refused refusal line) A
Plans A r (Accept plan) = (plan.request ≡ r) × Fits A plan
