-- Steps of a connection, one after the other.
use Rattle.std.proofs.Common.{◌≡◌, ◌∙◌, ap, arith, inl, inr, refl, subst, false, ℕ, List, Err}
use Rattle.std.proofs.lemmas.Bool.{cases_Bool}
use Rattle.sqlite.specs.Effect.{Database}
use Rattle.sqlite.specs.Order.{Row}
use Rattle.sqlite.specs.declared.error.Error.{Error}
use Rattle.sqlite.specs.declared.error.Error.TheVariants.{SqliteFailure}
use Rattle.sqlite.specs.declared.error.ErrorCode.TheVariants.{ConstraintViolation}
use Rattle.sqlite.specs.State.{State, HasCleanDisk, IsUnchanged, Survives, ExecutesIn, ExecutesInside, IsNotRun}
use Rattle.sqlite.specs.State.{shows_rows, store_error}
use Rattle.sqlite_schema.specs.declared.schema.Constraint.{Constraint}
use Rattle.sqlite_trees.specs.declared.error.StoreError.{StoreError}
use Rattle.sqlite_trees.specs.declared.error.StoreError.TheVariants.{OutOfMemory, Io, Corrupt, Full, Broken, Unstorable}
use Rattle.sqlite.proofs.Callers.{unchanged_then}
use Rattle.sqlite.proofs.StateLemmas.{survives_then}
use Rattle.sqlite_trees.specs.Tree.{Trees}
use Rattle.sql_keep.specs.Description.{desk_schema}
use Rattle.sql_keep.specs.Loads.{FindsTrees}

pub survives_itself : (s : State) (P : Trees → Type 0) → Survives s s P
survives_itself s P = record {
  clean = omega arith;
  shield = λ h. h;
  counts = omega arith;
  limit = refl;
  closes = λ clean h. inl h;
  crash = λ clean db h. inl h;
}

-- one read after another
pub finds_then : (a b c : State) (P Q : Trees → Type 0) (R : Trees → Type 0) → Survives b c R → FindsTrees a b P
    → FindsTrees b c Q → FindsTrees a c (λ trees. P trees × Q trees)
finds_then a b c P Q R survives first second clean has =
    let before : HasCleanDisk b = omega (arith, clean, survives.clean) in
    let p = first before has in
    let now = p.0.0.now_is in
    let q = second clean (ap (λ d. d.schema) now ∙ has) in
    (unchanged_then a b c p.0 q.0, (p.1, subst (λ (d : Database). Q d.trees) now q.1))

-- what a failing read may commit, where the schema is that of a desk as it is made, is nothing
pub reads_only : (a b c : State) → Survives b c (λ _. ¬ (b.now.schema ≡ desk_schema))
    → (HasCleanDisk b → a.now.schema ≡ desk_schema → IsUnchanged a b)
    → Survives a b (λ _. ¬ (a.now.schema ≡ desk_schema)) → Survives a c (λ _. ¬ (a.now.schema ≡ desk_schema))
reads_only a b c second same first =
    survives_then a b c _ _ _ (λ _ db h. h)
    (λ clean db other has.
    other (ap (λ d. d.schema) (same (omega (arith, clean, second.clean)) has).0.now_is ∙ has)) first second

-- a statement that is refused, and not for a fault of the store, leaves the connection as it was
pub refused_stays : (text : List ℕ) (params : Row) (old new : State) (e : Error)
    → ((cause : StoreError) → e ≡ store_error cause → ⊥) → ExecutesInside 0 text params old new (Err e) → IsUnchanged old new
unfolding ExecutesIn IsNotRun
refused_stays text params old new e no_fault (inl ran) = elim ran.0 [
  | inl early ↦ elim early [ inl none ↦ none.1 | inr fails ↦ absurd (no_fault fails.0 fails.1) ]
  | inr it ↦ elim (cases_Bool (shows_rows false it.0)) [
    | inl shows ↦ (rw shows at it.2).1
    | inr runs ↦ elim (rw runs at it.2) [ inl refused ↦ refused.1 | inr fails ↦ absurd (no_fault fails.0 fails.1) ]
  ]
]
refused_stays text params old new e no_fault (inr ended) = ended.2

-- a row that breaks a rule is no fault of the store
pub no_fault : (rule : Constraint) (cause : StoreError) → SqliteFailure (ConstraintViolation rule) ≡ store_error cause → ⊥
no_fault rule OutOfMemory e = cc
no_fault rule Io e = cc
no_fault rule Corrupt e = cc
no_fault rule Full e = cc
no_fault rule Broken e = cc
no_fault rule Unstorable e = cc
