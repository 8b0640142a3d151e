-- Each message asks for something.
use Rattle.std.proofs.Common.{IfNone, IfSome, None, Option, Some, ◌≡◌, ◌∙◌, ℕ, List, codes, inl, inr, refl, subst, sym, unwrap_or}
use Rattle.words.proofs.Decisions.{Decided, decided_both, decided_word}
use Rattle.web.specs.Asks.{AsksFor, Says}
use Rattle.web.specs.Messages.{Message}
use Rattle.web.specs.Reads.{IsCallOf, IsRead}
use Rattle.web.specs.Routes.{IsView, resource_of}
use Rattle.web.specs.declared.ask.Ask.{Ask}
use Rattle.web.specs.declared.ask.Ask.TheVariants as ask
use Rattle.web.specs.declared.route.Resource.{Resource}
use Rattle.web.specs.declared.route.Resource.TheVariants.{Commands}
use Rattle.web.proofs.Bodies.{IsSomeBody, body_decided}
use Rattle.web.proofs.OneView.{HasView, view_decided}
use Rattle.web.proofs.PlainTargets.{is_read, said}

-- what is said is asked for
asks_from_says : (m : Message) (a : Ask) → Says m a → AsksFor m a
asks_from_says m ask.Nothing h = absurd h
asks_from_says m a h = h

pub asks_as_read : (m : Message) (a : Ask) → IsRead m a → AsksFor m a
asks_as_read m a h = asks_from_says m a (said m a h)

-- a message in which nothing is read asks for nothing
pub asks_nothing : (m : Message) → ((a : Ask) → IsRead m a → ⊥) → AsksFor m ask.Nothing
asks_nothing m none = λ a h. none a (is_read m a h)

pub no_view : (m : Message) → m.head.method ≡ codes "GET" → (HasView m.head.target → ⊥) → (a : Ask) → IsRead m a → ⊥
no_view m get none a (inl (post, to, call)) = let other = sym get ∙ post in cc other
no_view m get none a (inr (also, view)) = none (a, view)

pub no_call : (m : Message) → (m.head.method ≡ codes "GET" → ⊥)
    → ((m.head.method ≡ codes "POST") × (resource_of m.head.target ≡ Some Commands) → ⊥) → (a : Ask) → IsRead m a → ⊥
no_call m other none a (inl (post, to, call)) = none (post, to)
no_call m other none a (inr (get, view)) = other get

-- the view that is found under the target
pub view_asked : (m : Message) (target : List ℕ) (found : Option Ask) → target ≡ m.head.target
    → m.head.method ≡ codes "GET" → IfSome found (λ view. IsView target view)
    → IfNone found ((view : Ask) → IsView target view → ⊥)
    → AsksFor m (unwrap_or found ask.Nothing)
view_asked m target None to get some none =
    asks_nothing m (no_view m get (λ (a, view). none a (subst (λ (t : List ℕ). IsView t a) (sym to) view)))
view_asked m target (Some view) to get some none = asks_as_read m view (inr (get, subst (λ (t : List ℕ). IsView t view) to some))

some_call : (m : Message) → Decided (IsSomeBody m.body) → (a : Ask) × IsCallOf m.body a
some_call m (inl (r, body)) = (ask.Call r, body)
some_call m (inr none) = (ask.BadCall, λ r body. none (r, body))

commands_decided : (target : List ℕ) → Decided (resource_of target ≡ Some Commands)
commands_decided target = by (resource_of target) refl
  where
    by : (found : Option Resource) → resource_of target ≡ found → Decided (resource_of target ≡ Some Commands)
    by None e = inr (λ h. let f = sym e ∙ h in cc f)
    by (Some Commands) e = inl e
    by (Some other) e = inr (λ h. let f = sym e ∙ h in cc f)

pub some_ask : (m : Message) → (a : Ask) × AsksFor m a
some_ask m =
    by (decided_word m.head.method (codes "GET"))
    (decided_both (decided_word m.head.method (codes "POST")) (commands_decided m.head.target))
  where
    on_get : m.head.method ≡ codes "GET" → Decided (HasView m.head.target) → (a : Ask) × AsksFor m a
    on_get get (inl (a, view)) = (a, asks_as_read m a (inr (get, view)))
    on_get get (inr none) = (ask.Nothing, asks_nothing m (no_view m get none))

    by : Decided (m.head.method ≡ codes "GET")
        → Decided ((m.head.method ≡ codes "POST") × (resource_of m.head.target ≡ Some Commands))
        → (a : Ask) × AsksFor m a
    by (inl get) posts = on_get get (view_decided m.head.target)
    by (inr other) (inl (post, to)) =
        let call = some_call m (body_decided m.body) in (call.0, asks_as_read m call.0 (inl (post, to, call.1)))
    by (inr other) (inr none) = (ask.Nothing, asks_nothing m (no_call m other none))
