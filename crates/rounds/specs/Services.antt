-- A service in rounds: what holds for the desk and for those who come, from the beginning of the service to its end.
use Rattle.std.specs.Prelude.{◌≡◌, ◌⊎◌, ◌+◌, ◌<◌, ◌≤◌, false, true, ℕ, IsSomeAnd, List, [], Option, Some, length, slice_get}
use Rattle.std.specs.Int.NonZero.{non_zero_usize_get}
use Rattle.std.specs.declared.num.NonZeroUsize.{NonZeroUsize}
use Rattle.ledger.specs.Ledger.{Ledger, open_orders, places}
use Rattle.keep.specs.declared.keep.Keep.{Ghosts}
use Rattle.desk.specs.Deferred.{DeferredView, snapshot_off}
use Rattle.desk.specs.Desk.{DeskView, IsStored, Snapshot}
use Rattle.rounds.specs.Crowds.{Doors, HubView, IsServing, Listening, Pass, visits_in}
use Rattle.desk.specs.Dialogue.{Language}
use Rattle.rounds.specs.Histories.{AreRounds, History, IsHeardBy, Visit, heard_in}
use Rattle.rounds.specs.Lines.{IsTold, LineView, Speaks, unheard}
use Rattle.rounds.specs.Rounds.{IsLeftBy, Loss}

-- How a desk whose commits are put off stands between rounds. Nothing is put off; while the desk goes on, the rows of
-- its ledger are stored behind it. Where a lost round has stopped the desk, a stop leaves the rows before that round
-- or those behind it.
pub record IsKept {K : Type 0} (k : Ghosts K) (loss : Option Loss) (desk : DeskView (DeferredView K)) : Type 0 where
  pub settled : desk.keep.changes ≡ []
  pub stored : desk.keep.stopped ≡ false → k.is_honest desk.keep.keep
      → IsStored (k.holds desk.keep.keep) (k.leaves desk.keep.keep) desk.ledger
  pub left : desk.keep.stopped ≡ true → (l : Loss) × (loss ≡ Some l) × IsLeftBy k desk.keep.keep l

-- a service between two of its steps
pub record InService {K C S P T Q A : Type 0} (g : Speaks S P T Q A) (c : Listening C T) (k : Ghosts K) (first : C)
    (start : Snapshot) (desk : DeskView (DeferredView K)) (hub : HubView C (LineView S P T)) : Type 0 where
  pub loss : Option Loss
  pub kept : IsKept k loss desk
  pub serving : IsServing g c first loss start (snapshot_off desk) hub

-- how many places are taken, or set aside for the ends of open orders
abbrev pub taken : Ledger → ℕ
taken A = places A + open_orders A

-- A service that served so many connections has served enough: as many as it was to serve; or so many places are taken
-- as it was to end at, and fewer were at its beginning.
abbrev pub HasServedEnough : (connections : ℕ) → (most : Option NonZeroUsize) → (count : ℕ) → (old new : Ledger) → Type 0
HasServedEnough connections most count old new = (count ≤ connections) × ((count ≡ connections)
    ⊎ IsSomeAnd most (λ places. (taken old < non_zero_usize_get places) × (non_zero_usize_get places ≤ taken new)))

-- So many connections came to the crowd, and were closed again. All their questions have one order, in which the
-- answers led the desk from `old` to `new`. Each connection was heard on its own stream alone, and was told its
-- answers in their order.
pub record HasMet {C T Q A : Type 0} (L : Language Q A) (remaining contents : T → Option (List ℕ)) (c : Listening C T)
    (loss : Option Loss) (first last : C) (count : ℕ) (old new : Snapshot) : Type 0 where
  pub doors : Doors T
  pub pass : Pass c first doors last
  pub counted : length (visits_in doors) ≡ count
  pub history : History Q A
  pub are_rounds : AreRounds L loss old history new
  pub told : (connection : ℕ) → connection < count → IsTold L (heard_in history connection)
  pub nobody : (connection : ℕ) → count ≤ connection → heard_in history connection ≡ unheard
  pub left : (connection : ℕ) (visit : Visit T) → slice_get (visits_in doors) connection ≡ Some visit → (stream : T)
      × (visit.left ≡ Some stream) × IsHeardBy remaining contents visit.came stream (heard_in history connection)

-- A service that has ended, on a desk whose commits are put off.
pub record HasServed {K C T Q A : Type 0} (L : Language Q A) (remaining contents : T → Option (List ℕ)) (c : Listening C T)
    (k : Ghosts K) (first last : C) (count : ℕ) (old new : DeskView (DeferredView K)) : Type 0 where
  pub loss : Option Loss
  pub kept : IsKept k loss new
  pub met : HasMet L remaining contents c loss first last count (snapshot_off old) (snapshot_off new)
