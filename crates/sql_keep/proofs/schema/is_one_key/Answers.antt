use Rattle.std.proofs.Common.{◌≡◌, ◌<◌, ◌≤◌, List, [], ◌∷◌, get_or, length, ap, sym, ◌∙◌, arith}
use Rattle.sql_keep.proofs.schema.is_one_key.Goals as goal

one : {X : Type 0} (xs : List X) (x : X) → 1 ≤ length xs → length xs < 2 → x ≡ get_or xs 0 x → xs ≡ x ∷ []
one [] x some few is = absurd (omega arith)
one (y ∷ []) x some few is = ap (λ z. z ∷ []) (sym is)
one (y ∷ z ∷ zs) x some few is = absurd (omega arith)

pub returns : goal.returns
returns c =
    let is : c.args.keys.now ≡ c.key-item.result ∷ [] =
    one c.args.keys.now c.key-item.result (omega arith) (omega arith) c.key-item.is in
    let same : c.args.keys.now ≡ c.args.places.now ∷ [] → c.key-item.result ≡ c.args.places.now = λ e. cc in
    (λ t. is ∙ ap (λ k. k ∷ []) (c.are_places.ensures.0 t), λ e. c.are_places.ensures.1 (same e))
