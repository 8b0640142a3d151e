-- The bytes of an answer, part by part.
use Rattle.std.proofs.Common.{◌≡◌, ℕ, List, [], ◌∷◌, ◌++◌, codes, decimal, length}
use Rattle.web.specs.Answers.{answer_bytes, header_line, status_line}

pub answer_whole : (status : ℕ) (kind body digits first typed sized headed out : List ℕ)
    → first ≡ status_line status
    → typed ≡ first ++ header_line (codes "content-type") kind
    → digits ≡ decimal (length body)
    → sized ≡ typed ++ header_line (codes "content-length") digits
    → headed ≡ sized ++ 13 ∷ 10 ∷ []
    → out ≡ headed ++ body
    → out ≡ answer_bytes (record { status = status; kind = kind; body = body })
answer_whole status kind body digits first typed sized headed out e f g h i j = rw (j, i, h, g, f, e)
