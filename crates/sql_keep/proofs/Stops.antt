-- What a stop leaves of a store that is settled, and of one after a commit that may have failed.
use Rattle.std.proofs.Common.{◌≡◌, ◌∙◌, Bool, ap₂, arith, false, inl, inr, is_err, true, List, [], ◌∷◌, Err, Result, ap}
use Rattle.std.proofs.Common.{refl, subst, sym}
use Rattle.std.specs.Prelude.{IsTrue}
use Rattle.sqlite.specs.Effect.{Database}
use Rattle.sqlite.specs.Held.{Held, state}
use Rattle.sqlite.specs.State.{State, HasCleanDisk, Shows, Survives}
use Rattle.sqlite.proofs.Callers.{survives_begin}
use Rattle.sqlite.proofs.StateLemmas.{survives_then}
use Rattle.sqlite_trees.specs.declared.store.Store.{Ghosts}
use Rattle.sqlite_trees.specs.Tree.{Trees}
use Rattle.ledger.specs.declared.rows.Change.{Change}
use Rattle.ledger.specs.declared.rows.Tables.{Tables}
use Rattle.ledger.specs.Rows.{Content}
use Rattle.ledger.specs.Tables.{content_of}
use Rattle.sql_keep.specs.StoreContent.{Holds, IsContent, LeavesOnly}
use Rattle.keep.specs.Keeping.{IsLoaded}
use Rattle.sql_keep.specs.Loads.{IsRead}
use Rattle.sql_keep.specs.Old.{IsCurrent, IsMadeNewest, IsUpgraded}
use Rattle.sql_keep.specs.Laws.{only_content}
use Rattle.sql_keep.specs.Keeper.{Keeper}
use Rattle.keep.specs.Content.{with_changes}
use Rattle.sql_keep.specs.Transactions.{AreChanged, IsSettled, Makes}
use Rattle.sql_keep.proofs.Schemas.{not_older, older}

-- trees that are those of the database hold its content
pub held_by : (db : Database) (trees : Trees) (x : Content) → trees ≡ db.trees → Holds db x → IsContent trees x
held_by db trees x is held = subst (λ (t : Trees). IsContent t x) (sym is) held.content

-- of an open store between transactions, a stop leaves what it shows
pub leaves_now : (s : State) (x : Content) → ((trees : Trees) → s.may_leave trees → trees ≡ s.committed.trees)
    → s.committed ≡ s.now → Holds s.now x → LeavesOnly s.may_leave (x ∷ [])
leaves_now s x settled same held trees left =
    (x, held_by s.now trees x (settled trees left ∙ ap (λ (d : Database). d.trees) same) held, inl refl)

pub leaves_either : (old new : State) (changes : List Change) (x : Content)
    → Survives old new (AreChanged old.now changes) → HasCleanDisk new
    → Holds old.now x → LeavesOnly old.may_leave (x ∷ []) → LeavesOnly new.may_leave (x ∷ with_changes changes x ∷ [])
leaves_either old new changes x survives clean held alone trees left = elim (survives.crash clean trees left) [
  | inl before ↦ (let was = alone trees before in (was.0, was.1, elim was.2 [ inl e ↦ inl e | inr none ↦ absurd none ]))
  | inr made ↦ (with_changes changes x, made x held, inr (inl refl))
]

-- an error that leaves the connection as it was leaves a stopped keeper over it
pub stopped_over : {S T E : Type 0} (r : Result T E) (fault : E) (connection was : Held S) (stopped : Bool)
    → stopped ≡ is_err r → r ≡ Err fault → connection ≡ was
    → let now : Keeper S = record { connection = connection; stopped = stopped } in
    now ≡ record { connection = was; stopped = true }
stopped_over {S} r fault connection was stopped told is same =
    ap₂ (λ (c : Held S) (b : Bool). let k : Keeper S = record { connection = c; stopped = b } in k) same (told ∙ ap is_err is)

-- of an open store a stop leaves what is committed
module _ (old new : State)
    (settled : IsTrue new.is_open → (trees : Trees) → new.may_leave trees → trees ≡ new.committed.trees) where
  pub found_of : (t : Tables) → IsRead (λ db. Holds db (content_of t)) old new
      → IsLoaded (Holds old.now) (Holds new.now) (LeavesOnly new.may_leave) t
  found_of t read =
      let same : new.now ≡ old.now = read.same.0.now_is in
      let held = subst (λ (db : Database). Holds db (content_of t)) (sym same) read.is in
      record {
        content = held;
        one = λ x was. only_content old.now.trees x (content_of t) was.content read.is.content;
        same = λ x. (subst (λ (db : Database). Holds db x) (sym same), subst (λ (db : Database). Holds db x) same);
        alone = leaves_now new (content_of t) (settled read.is_open) read.settled held;
      }

  pub newest_read : IsRead IsCurrent old new → IsMadeNewest old new
  newest_read read = record {
    version = inr read.is;
    made = λ x held. absurd (older old.now held.0 held.1.1 held.2.schema_is read.is.schema_is);
    same = λ x held. subst (λ (db : Database). Holds db x) (sym read.same.0.now_is) held;
    alone = λ x held. leaves_now new x (settled read.is_open) read.settled held;
  }

  pub newest_made : IsUpgraded old new → IsMadeNewest old new
  newest_made made = record {
    version = inl made.was;
    made = made.whole;
    same = λ x held. absurd (not_older old.now held.schema_is made.was);
    alone = λ x held. leaves_now new x (settled made.is_open) made.settled held;
  }

-- ---- a transaction

module _ {S : Type 0} (g : Ghosts S) (old last new : Held S) where
  abbrev begun : State
  begun = state g (record old { in_transaction = true })

  -- what it has made is committed
  pub committed : (Is : Database → Type 0) → Makes Is begun (state g last)
      → Shows (state g last) (state g new) (state g last).now (state g last).now false → IsSettled Is (state g new)
  committed Is made h = record {
    is_open = h.is_open;
    settled = h.committed_is ∙ sym h.now_is;
    is = subst Is (sym h.now_is) made.is;
  }

  -- or a stop leaves what was before
  pub survives_commit : (P : Trees → Type 0) → (HasCleanDisk (state g last) → P (state g last).now.trees)
      → Survives begun (state g last) (λ _. ⊥)
      → Survives (state g last) (state g new) (λ trees. trees ≡ (state g last).now.trees)
      → Survives (state g old) (state g new) P
  survives_commit P made first second =
      survives_then (state g old) (state g last) (state g new) _ _ P (λ _ trees none. absurd none)
      (λ clean trees is. subst P (sym is) (made (omega (arith, clean, second.clean))))
      (survives_begin g old (state g last) _ first) second
