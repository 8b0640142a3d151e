-- The object of branches has no float.
use Rattle.std.proofs.Common.{◌≡◌, ◌∙◌, ℕ, false, List, [], ◌∷◌, ap, map, refl}
use Rattle.serde_json.specs.Data.{Data, string}
use Rattle.serde_json.specs.View.{items_of}
use Rattle.serde_json.specs.Written.{has_float, items_have_float}
use Rattle.web.specs.Objects.{branches_object}

texts_have_no_float : (texts : List (List ℕ)) → items_have_float (items_of (map string texts)) ≡ false
texts_have_no_float [] = refl
texts_have_no_float (t ∷ ts) = texts_have_no_float ts

branches_have_none : (branches : List (List ℕ)) → has_float (branches_object branches) ≡ false
branches_have_none branches = rw (texts_have_no_float branches)

pub branches_have_no_float : (branches : List (List ℕ)) (value : Data) → value ≡ branches_object branches
    → has_float value ≡ false
branches_have_no_float branches value e = ap has_float e ∙ branches_have_none branches
