-- Changes that are put off.
use Rattle.std.proofs.Common.{◌≡◌, ◌∙◌, List, [], ◌∷◌, Err, Ok, Result, ap, inl, inr, refl, subst, sym}
use Rattle.std.proofs.Math.Logic.{∥∥₁_elim}
use Rattle.std.proofs.Props.{props}
use Rattle.ledger.specs.Good.{Good}
use Rattle.ledger.specs.Ledger.{Ledger}
use Rattle.ledger.specs.Rows.{Content, DeskCells, FieldCells, FirmCells, IsRowsOf, KeptCells, LineCells, MoveCells, OrderCells}
use Rattle.ledger.specs.Tables.{rows_among, with_change}
use Rattle.ledger.specs.declared.rows.Change.{Change}
use Rattle.ledger.specs.declared.rows.Change.TheVariants as change
use Rattle.keep.specs.Content.{IsAmong, with_changes}
use Rattle.keep.specs.declared.keep.Keep.{Ghosts}
use Rattle.std.specs.List.{AllZip}
use Rattle.desk.specs.Deferred.{IsSameRow, PutsOff, PutsOffOneOf}
use Rattle.desk.specs.Desk.{IsStored, LeavesEither}
use Rattle.std.specs.Prelude.{OnErr, OnOk}

-- a row of the same cells goes in alike
same_put : (c d : Change) (x : Content) → IsSameRow c d → with_change d x ≡ with_change c x
same_put (change.Desk row) d x (copy, is, cells) =
    ap (λ (c : Change). with_change c x) is ∙ ap (λ (r : DeskCells). record x { desk = r ∷ x.desk }) cells
same_put (change.Field row) d x (copy, is, cells) =
    ap (λ (c : Change). with_change c x) is ∙ ap (λ (r : FieldCells). record x { fields = r ∷ x.fields }) cells
same_put (change.Move row) d x (copy, is, cells) =
    ap (λ (c : Change). with_change c x) is ∙ ap (λ (r : MoveCells). record x { moves = r ∷ x.moves }) cells
same_put (change.Order row) d x (copy, is, cells) =
    ap (λ (c : Change). with_change c x) is ∙ ap (λ (r : OrderCells). record x { orders = r ∷ x.orders }) cells
same_put (change.Line row) d x (copy, is, cells) =
    ap (λ (c : Change). with_change c x) is ∙ ap (λ (r : LineCells). record x { lines = r ∷ x.lines }) cells
same_put (change.Kept row) d x (copy, is, cells) =
    ap (λ (c : Change). with_change c x) is ∙ ap (λ (r : KeptCells). record x { kept = r ∷ x.kept }) cells
same_put (change.Firm row) d x (copy, is, cells) =
    ap (λ (c : Change). with_change c x) is ∙ ap (λ (r : FirmCells). record x { firms = r ∷ x.firms }) cells

-- copies have the same rows
pub copies_same : (cs ds : List Change) → AllZip IsSameRow cs ds → rows_among ds ≡ rows_among cs
copies_same [] [] h = refl
copies_same [] (d ∷ ds) h = absurd h
copies_same (c ∷ cs) [] h = absurd h
copies_same (c ∷ cs) (d ∷ ds) h = same_put c d (rows_among ds) h.0 ∙ ap (with_change c) (copies_same cs ds h.1)

-- ---- one content behind it

content_set : IsSet Content
content_set = hlevel props

one_of : (x y : Content) → IsAmong (y ∷ []) x → x ≡ y
one_of x y (inl e) = e
one_of x y (inr h) = absurd h

-- a keeper that leaves one content alone leaves no other
pub one_base : (leaves : List Content → Type 0) (may_leave : Content → Type 0)
    → ((these : List Content) → leaves these → ∥ ((x : Content) × may_leave x) ∥₁)
    → ((these : List Content) (x : Content) → leaves these → may_leave x → IsAmong these x) → (b c : Content)
    → leaves (b ∷ []) → leaves (c ∷ []) → b ≡ c
one_base leaves may_leave some among b c hb hc =
    ∥∥₁_elim (some (b ∷ []) hb) (content_set b c)
    (λ (x : (x : Content) × may_leave x).
    sym (one_of x.0 b (among (b ∷ []) x.0 hb x.1)) ∙ one_of x.0 c (among (c ∷ []) x.0 hc x.1))

module _ {K : Type 0} (g : Ghosts K) (keep : K) where
  -- what is put off more
  pub off_more : (changes more all : List Change)
      → ((x : Content) → with_changes all x ≡ with_changes more (with_changes changes x)) → (x : Content)
      → PutsOff g keep changes x → PutsOff g keep all (with_changes more x)
  off_more changes more all is x h = record {
    base = h.base;
    held = h.held;
    alone = h.alone;
    with_them = ap (λ (c : Content). with_changes more c) h.with_them ∙ sym (is h.base);
  }

  pub off_either : (changes more all : List Change)
      → ((x : Content) → with_changes all x ≡ with_changes more (with_changes changes x)) → (x : Content)
      → PutsOff g keep changes x → PutsOffOneOf g keep changes (x ∷ []) → PutsOffOneOf g keep all (x ∷ with_changes more x ∷ [])
  off_either changes more all is x h only = record {
    some = with_changes more x;
    put_off = off_more changes more all is x h;
    among = λ y k.
        let was : PutsOff g keep changes (with_changes changes k.base) = record {
          base = k.base;
          held = k.held;
          alone = k.alone;
          with_them = refl;
        } in
        let same : with_changes changes k.base ≡ x = one_of _ x (only.among (with_changes changes k.base) was) in
        inr (inl (k.with_them ∙ is k.base ∙ ap (λ (c : Content). with_changes more c) same));
  }

  pub off_still : (changes more : List Change) (x : Content) → PutsOff g keep changes x
      → PutsOffOneOf g keep changes (x ∷ []) → PutsOffOneOf g keep changes (x ∷ with_changes more x ∷ [])
  off_still changes more x h only = record { some = x; put_off = h; among = λ y k. inl (one_of y x (only.among y k)) }

  pub off_alone : ((these : List Content) → g.leaves keep these → ∥ ((x : Content) × g.may_leave keep x) ∥₁)
      → ((these : List Content) (x : Content) → g.leaves keep these → g.may_leave keep x → IsAmong these x)
      → (changes : List Change) (x : Content) → PutsOff g keep changes x → PutsOffOneOf g keep changes (x ∷ [])
  off_alone some among changes x h = record {
    some = x;
    put_off = h;
    among = λ y k. inl (k.with_them
        ∙ ap (λ (b : Content). with_changes changes b)
        (one_base (g.leaves keep) (g.may_leave keep) some among k.base h.base k.alone h.alone) ∙ sym h.with_them);
  }

  -- what is stored behind it is what it holds
  pub stored_off : ((these : List Content) → g.leaves keep these → ∥ ((x : Content) × g.may_leave keep x) ∥₁)
      → ((these : List Content) (x : Content) → g.leaves keep these → g.may_leave keep x → IsAmong these x)
      → (changes : List Change) → changes ≡ [] → (A : Ledger) → IsStored (g.holds keep) (g.leaves keep) A
      → IsStored (PutsOff g keep changes) (PutsOffOneOf g keep changes) A
  stored_off some among changes none A was =
      let here : PutsOff g keep changes was.rows = record {
        base = was.rows;
        held = was.held;
        alone = was.alone;
        with_them = ap (λ (cs : List Change). with_changes cs was.rows) (sym none);
      } in
      record { rows = was.rows; are_rows = was.are_rows; held = here; alone = off_alone some among changes was.rows here }

  -- and the other way round, where nothing is put off
  pub stored_behind : (A : Ledger) → IsStored (PutsOff g keep []) (PutsOffOneOf g keep []) A
      → IsStored (g.holds keep) (g.leaves keep) A
  stored_behind A was = record {
    rows = was.held.base;
    are_rows = subst (IsRowsOf A) was.held.with_them was.are_rows;
    held = was.held.held;
    alone = was.held.alone;
  }

  -- where it could not be kept, a stop leaves what was stored, or that with what was put off
  pub lost_off : ((these : List Content) → g.leaves keep these → ∥ ((x : Content) × g.may_leave keep x) ∥₁)
      → ((these : List Content) (x : Content) → g.leaves keep these → g.may_leave keep x → IsAmong these x)
      → (changes : List Change) (A B : Ledger) → Good A → Good B → IsStored (g.holds keep) (g.leaves keep) A
      → IsStored (PutsOff g keep changes) (PutsOffOneOf g keep changes) B
      → (leaves : List Content → Type 0)
      → ((x : Content) → g.holds keep x → g.leaves keep (x ∷ []) → leaves (x ∷ with_changes changes x ∷ []))
      → LeavesEither leaves A B
  lost_off some among changes A B good_A good_B was is leaves either = record {
    good_before = good_A;
    good_after = good_B;
    before = was.rows;
    after = with_changes changes was.rows;
    are_before = was.are_rows;
    are_after =
        subst (IsRowsOf B) (is.held.with_them
        ∙ ap (λ (b : Content). with_changes changes b)
        (one_base (g.leaves keep) (g.may_leave keep) some among is.held.base was.rows is.held.alone was.alone))
        is.are_rows;
    either = either was.rows was.held was.alone;
  }

-- what a result without an error tells
pub of_ok : {T E : Type 0} (r : Result T E) (X Y : Type 0) → OnOk r X → OnErr r Y → (Y → ⊥) → X
of_ok (Ok t) X Y h k never = h
of_ok (Err e) X Y h k never = absurd (never k)

-- what is so whatever the result
pub ok_anyway : {T E : Type 0} (r : Result T E) (X : Type 0) → X → OnOk r X
ok_anyway (Ok t) X h = h
ok_anyway (Err e) X h = tt

-- what is so where it is an error
pub err_when : {T E : Type 0} (r : Result T E) (X : Type 0) → ((e : E) → r ≡ Err e → X) → OnErr r X
err_when (Ok t) X h = tt
err_when (Err e) X h = h e refl
