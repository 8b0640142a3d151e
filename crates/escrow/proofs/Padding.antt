-- A text written at the front of a fixed array.
use Rattle.std.specs.Prelude.{◌≡◌, ℕ, ◌-◌, ◌≤◌, List, ◌++◌, drop, length, replicate}
use Rattle.std.proofs.Common.{arith, length-append, ap, ◌∙◌}
use Rattle.std.proofs.lemmas.List.{length-replicate, drop-replicate}
use Rattle.std.proofs.Math.Seq.{take-append_seam}
use Rattle.escrow.specs.Padding.{IsPadded}

-- a text written over the front of zeros is padded
pub padding : (n : ℕ) (bytes front : List ℕ) → length bytes ≤ n → front ≡ bytes
    → IsPadded n (length bytes) (front ++ drop (length bytes) (replicate n 0))
padding n bytes front h e = rw (e, drop-replicate) (record {
  size = length-append bytes (replicate (n - length bytes) 0) ∙ simp length-replicate (omega arith);
  fits = h;
  zeros = ap (λ xs. xs ++ replicate (n - length bytes) 0) (take-append_seam bytes (replicate (n - length bytes) 0));
})
