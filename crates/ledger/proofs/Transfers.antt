-- The commit of a transfer, a `firm` on it and a use leave every article's total as it was.
use Rattle.ledger.proofs.Prelude.{Answers, Bool, Command, Committed, Each, Field, FirstFailure, Good, IsGoodOrder}
use Rattle.ledger.proofs.Prelude.{IsSome, IsSomeAnd, IsStrictlySortedBy, IsTransferPair, IsTrue, Kept, Ledger, Line}
use Rattle.ledger.proofs.Prelude.{List, Name, None, Option, Order, Reply, Request, Some, [], accept, ap, arith}
use Rattle.ledger.proofs.Prelude.{article_total, bytes_eq, change_lines, checks, false, field_named, find}
use Rattle.ledger.proofs.Prelude.{if◌then◌else◌, ints, is_settled, is_transfer, line_name, map, name_cmp, name_of, on}
use Rattle.ledger.proofs.Prelude.{order_numbered, part_of, pos, raise_used, refl, same_name, set_firm, set_state}
use Rattle.ledger.proofs.Prelude.{settled, settled_part, signed, subst, sym, total, true, ℕ, ℤ, ◌+ℤ◌, ◌==◌, ◌||◌, ◌∙◌}
use Rattle.ledger.proofs.Prelude.{◌∷◌, ◌≡◌}
use Rattle.words.specs.declared.command.Command.TheVariants as command
use Rattle.ledger.specs.Future.{Settles}
use Rattle.ledger.proofs.Sums.{change_order, each, each-imp, each-map, less_is, total-eq, total-sum, total-zero}
use Rattle.ledger.proofs.Lists.{each-found, each-unmap, found_passes, total-one}
use Rattle.ledger.proofs.FieldNames.{name_is, one_named, other_way}
use Rattle.ledger.proofs.Passing.{answered}
use Rattle.ledger.proofs.Falls.{Fine, Fit, fit-accept, fit_from_good}
use Rattle.ledger.proofs.Steps.{one_changes}

-- what is moved on one field, over the article's fields
one_part : List ℕ → Name → ℤ → Field → ℤ
one_part article name z f = if bytes_eq f.name.article article then (if same_name f.name name then z else pos 0) else pos 0

back : (f g : Name) → same_name f g ≡ true → same_name g f ≡ true
back f g e = subst (λ h. same_name g h ≡ true) (sym (name_is f g e)) (subst (λ h. same_name h g ≡ true) (name_is f g e) e)

at_named : (article : List ℕ) (name : Name) (z : ℤ) (fs : List Field)
    → IsStrictlySortedBy name_cmp (map (λ f. f.name) fs) → IsSome (find (λ e. same_name name e.name) fs)
    → total (one_part article name z) fs ≡ (if bytes_eq name.article article then z else pos 0)
unfolding one_part
at_named article name z fs sorted some =
    total-one (λ f. same_name name f.name) (one_part article name z) _ fs (one_named name fs sorted) here off some
  where
    here : (f : Field) → same_name name f.name ≡ true
        → one_part article name z f ≡ (if bytes_eq name.article article then z else pos 0)
    here f e = rw (back name f.name e) (ap (λ n. if bytes_eq n.article article then z else pos 0) (sym (name_is name f.name e)))

    nothing : (b : Bool) → (if b then pos 0 else pos 0) ≡ pos 0
    nothing b = grind arith

    off : (f : Field) → same_name name f.name ≡ false → one_part article name z f ≡ pos 0
    off f e = rw (other_way name f.name e) (nothing (bytes_eq f.name.article article))

-- what the lines move that are settled or not, by what they used
abbrev moved : Bool → Line → ℤ
moved b l = signed l.way (if b then l.used else 0)

-- on the fields of an article a transfer settles as much in as out, whether what it uses is settled or not
pair_evens : (A : Ledger) (article : List ℕ) (b : Bool) (ls : List Line)
    → IsStrictlySortedBy name_cmp (map (λ f. f.name) A.fields) → IsTransferPair ls
    → Each (λ l. IsSome (field_named A (line_name l))) ls
    → total (λ f.
    if bytes_eq f.name.article article then total (λ l. if on f.name l then moved b l else pos 0) ls else pos 0)
    A.fields ≡ pos 0
unfolding one_part
pair_evens A article b [] sorted p g = absurd p
pair_evens A article b (l ∷ []) sorted p g = absurd p
pair_evens A article b (l ∷ m ∷ k ∷ ls) sorted p g = absurd p
pair_evens A article b (l ∷ m ∷ []) sorted p g =
    let at = λ (l : Line). at_named article (line_name l) (moved b l) A.fields sorted in
    let c = total-eq (λ f.
    if bytes_eq f.name.article article
    then ((if on f.name l then moved b l else pos 0) +ℤ ((if on f.name m then moved b m else pos 0) +ℤ pos 0))
    else pos 0)
    (λ f. one_part article (line_name l) (moved b l) f +ℤ one_part article (line_name m) (moved b m) f) A.fields
    (each (λ f. by (bytes_eq f.name.article article) (if on f.name l then moved b l else pos 0)
    (if on f.name m then moved b m else pos 0)) A.fields) in
    let d = total-sum (one_part article (line_name l) (moved b l)) (one_part article (line_name m) (moved b m)) A.fields in
    let e : (if bytes_eq l.article article then moved b l else pos 0)
    +ℤ (if bytes_eq m.article article then moved b m else pos 0) ≡ pos 0
    = subst (λ t.
    (if bytes_eq l.article article then moved b l else pos 0) +ℤ (if bytes_eq t article then moved b m else pos 0)
    ≡ pos 0) p.2 (grind arith) in
    c ∙ d ∙ (λ i. at l g.0 i +ℤ at m g.1.0 i) ∙ e
  where
    by : (b : Bool) (x y : ℤ) → (if b then (x +ℤ (y +ℤ pos 0)) else pos 0) ≡ (if b then x else pos 0) +ℤ (if b then y else pos 0)
    by b x y = grind arith

-- ---- a transfer changes, and is one before and after

-- each line's field is there
abbrev AreThere : Ledger → List Line → Type 0
AreThere A ls = Each (λ l. IsSome (field_named A (line_name l))) ls

module _ (A : Ledger) (good : Good A) (n : ℕ) (h : Order → Order) (kept : List Kept) (article : List ℕ) where
  abbrev after : Ledger
  after = record (change_order n h A) { kept = kept }

  abbrev moves : Order → Field → ℤ
  moves o f = if bytes_eq f.name.article article then part_of settled_part f.name o else pos 0

  abbrev values : Ledger → Field → ℤ
  values B f = if bytes_eq f.name.article article then settled B f else pos 0

  same_total : (o : Order) → order_numbered A n ≡ Some o → IsTransferPair o.lines → IsTransferPair (h o).lines
      → AreThere A o.lines → AreThere A (h o).lines → article_total after article ≡ article_total A article
  same_total o found pair new_pair there new_there =
      let a = pair_evens A article (is_settled o) o.lines good.fields_in_order pair there in
      let b = pair_evens A article (is_settled (h o)) (h o).lines good.fields_in_order new_pair new_there in
      let c = total-eq (λ f. values after f +ℤ moves o f) (λ f. values A f +ℤ moves (h o) f) A.fields
      (each (λ f. at f (bytes_eq f.name.article article)) A.fields) in
      let d = total-sum (values after) (moves o) A.fields in
      let e = total-sum (values A) (moves (h o)) A.fields in
      omega (arith, ints)
    where
      so : (f : Field) → settled after f +ℤ part_of settled_part f.name o ≡ settled A f +ℤ part_of settled_part f.name (h o)
      so f = let e = one_changes (part_of settled_part f.name) h n o A.orders good.orders_in_order found in omega (arith, ints)

      at : (f : Field) (b : Bool)
          → (if b then settled after f else pos 0) +ℤ (if b then part_of settled_part f.name o else pos 0)
          ≡ (if b then settled A f else pos 0) +ℤ (if b then part_of settled_part f.name (h o) else pos 0)
      at f b = grind (arith, so)

  pub stays : Fit after → ((o : Order) → is_transfer (h o) ≡ is_transfer o)
      → ((o : Order) → AreThere A o.lines → AreThere A (h o).lines)
      → IsSomeAnd (order_numbered A n) (λ o. IsTrue (is_transfer o)) → article_total after article ≡ article_total A article
  stays fit kind there transfer = by (order_numbered A n) refl transfer
    where
      by : (x : Option Order) → order_numbered A n ≡ x → IsSomeAnd x (λ o. IsTrue (is_transfer o))
          → article_total after article ≡ article_total A article
      by None e t = absurd t
      by (Some o) e t =
          let was = each-found (IsGoodOrder A) _ o A.orders good.orders e in
          let fine =
          subst (λ b. Fine (if b then h o else o)) (found_passes _ o A.orders e)
          (each-found (λ o. Fine (if o.number == n then h o else o)) _ o A.orders
          (each-unmap Fine (λ o. if o.number == n then h o else o) A.orders fit.orders) e) in
          let lines = each-imp (λ l g. g.field) o.lines was.lines in
          same_total o e (was.transfer t) (fine.pair (kind o ∙ t)) lines (there o lines)

-- ---- by the commands that settle what it uses

used_there : (A : Ledger) (t : Bool) (f : Name) (q : ℕ) (ls : List Line) → AreThere A ls
    → AreThere A (map (λ l. if t || on f l then raise_used q l else l) ls)
used_there A t f q ls there = grind (arith, each-map, each-imp)

total_stays : (A : Ledger) (key : List ℕ) (c : Command) (n : ℕ) (article : List ℕ) → Good A → Settles c n
    → FirstFailure (checks A c) None → IsSomeAnd (order_numbered A n) (λ o. IsTrue (is_transfer o))
    → article_total (accept A (record { key = key; command = c })) article ≡ article_total A article
total_stays A key (command.Commit m) n article good is passed transfer = stays A good m (set_state Committed) _ article
    (fit-accept A key (command.Commit m) tt (fit_from_good A good) passed) (λ o. refl) (λ o x. x)
    (subst (λ k. IsSomeAnd (order_numbered A k) (λ o. IsTrue (is_transfer o))) (sym is) transfer)
total_stays A key (command.Firm m) n article good is passed transfer = stays A good m set_firm _ article
    (fit-accept A key (command.Firm m) tt (fit_from_good A good) passed) (λ o. refl) (λ o x. x)
    (subst (λ k. IsSomeAnd (order_numbered A k) (λ o. IsTrue (is_transfer o))) (sym is) transfer)
total_stays A key (command.Use m b a q) n article good is passed transfer =
    stays A good m (change_lines (name_of b a) (raise_used q)) _ article
    (fit-accept A key (command.Use m b a q) tt (fit_from_good A good) passed) (λ o. refl)
    (λ o x. used_there A (is_transfer o) (name_of b a) q o.lines x)
    (subst (λ k. IsSomeAnd (order_numbered A k) (λ o. IsTrue (is_transfer o))) (sym is) transfer)
total_stays A key c n article good is passed transfer = absurd is

pub total_answer : (A : Ledger) (r : Request) (n : ℕ) (reply : Reply) (B : Ledger) (article : List ℕ) → Good A
    → Settles r.command n → Answers A r reply B
    → IsSomeAnd (order_numbered A n) (λ o. IsTrue (is_transfer o)) → article_total B article ≡ article_total A article
total_answer A r n reply B article g e h t =
    answered A r reply B (λ L. article_total L article ≡ article_total A article) h refl
    (λ passed. total_stays A r.key r.command n article g e passed t)
