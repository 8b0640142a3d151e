-- A message asks for one thing.
use Rattle.std.proofs.Common.{◌≡◌, ◌∙◌, ℕ, List, ap, inl, inr, refl, sym}
use Rattle.web.specs.Asks.{AsksFor, Says}
use Rattle.web.specs.Messages.{Message}
use Rattle.web.specs.Reads.{IsCallOf, IsRead}
use Rattle.web.specs.declared.ask.Ask.{Ask}
use Rattle.web.specs.declared.ask.Ask.TheVariants as ask
use Rattle.web.proofs.Bodies.{one_body}
use Rattle.web.proofs.OneView.{one_view}
use Rattle.web.proofs.PlainTargets.{is_read}

one_call : (body : List ℕ) (a b : Ask) → IsCallOf body a → IsCallOf body b → a ≡ b
one_call body (ask.Call r) (ask.Call s) h k = ap ask.Call (one_body body r s h k)
one_call body (ask.Call r) ask.BadCall h k = absurd (k r h)
one_call body ask.BadCall (ask.Call s) h k = absurd (h s k)
one_call body ask.BadCall ask.BadCall h k = refl
one_call body (ask.Call r) b h k = absurd k
one_call body ask.BadCall b h k = absurd k
one_call body a b h k = absurd h

one_read : (m : Message) (a b : Ask) → IsRead m a → IsRead m b → a ≡ b
one_read m a b (inl (post, to, h)) (inl (also, too, k)) = one_call m.body a b h k
one_read m a b (inr (get, h)) (inr (also, k)) = one_view m.head.target a b h k
one_read m a b (inl (post, to, h)) (inr (get, k)) = let other = sym post ∙ get in cc other
one_read m a b (inr (get, h)) (inl (post, to, k)) = let other = sym post ∙ get in cc other

says_one : (m : Message) (a b : Ask) → Says m a → Says m b → a ≡ b
says_one m a b h k = one_read m a b (is_read m a h) (is_read m b k)

pub asks_one : (m : Message) (a b : Ask) → AsksFor m a → AsksFor m b → a ≡ b
asks_one m ask.Nothing ask.Nothing h k = refl
asks_one m ask.Nothing b h k = absurd (h b k)
asks_one m a ask.Nothing h k = absurd (k a h)
asks_one m a b h k = says_one m a b h k
