-- A body is one request's at most, and it is decided whether it is some request's.
use Rattle.std.proofs.Common.{◌≡◌, ◌≢◌, ◌∙◌, ℕ, true, List, [], Option, Some, None, ap, codes, inl, inr, refl, subst, sym}
use Rattle.std.proofs.lemmas.Str.{IsUtf8-from_is_utf8, is_utf8-from_IsUtf8}
use Rattle.std.specs.Str.{IsUtf8, is_utf8}
use Rattle.serde_json.proofs.OnLiterals.{serde_json_on_literals}
use Rattle.serde_json.specs.Data.{Data, member, no_members, object, string}
use Rattle.serde_json.specs.Read.{read}
use Rattle.escrow.specs.Codes.{IsKey}
use Rattle.words.proofs.Decisions.{Decided, decided_bool, decided_both, decided_by, decided_in_range, decided_key, decided_word}
use Rattle.words.proofs.OneItem.{command_of, command_of-command_words, spelling_one}
use Rattle.words.proofs.LineWords.{words-command}
use Rattle.words.specs.Spelling.{IsInRange, spelling}
use Rattle.words.specs.Words.{words_of}
use Rattle.words.specs.declared.command.Command.{Command}
use Rattle.words.specs.declared.command.Request.{Request}
use Rattle.web.specs.Bodies.{IsBodyOf, IsObjectOf}

-- ---- one at most

pub one_body : (body : List ℕ) (r s : Request) → IsBodyOf r body → IsBodyOf s body → r ≡ s
one_body body r s h k =
    let same = sym h.reads ∙ k.reads in
    let key : r.key ≡ s.key = cc same in
    let command = spelling_one r.command s.command h.command k.command (cc same) in
    λ i. record { key = key i; command = command i }

-- ---- decided

-- the text spells a command
abbrev SpellsSome : List ℕ → Type 0
SpellsSome text = (c : Command) × IsInRange c × (text ≡ spelling c)

spelled_decided : (text : List ℕ) → Decided (SpellsSome text)
spelled_decided text =
    decided_by to from (decided_both (decided_in_range (command_of (words_of text)))
    (decided_word text (spelling (command_of (words_of text)))))
  where
    to : IsInRange (command_of (words_of text)) × (text ≡ spelling (command_of (words_of text))) → SpellsSome text
    to h = (command_of (words_of text), h.0, h.1)

    from : SpellsSome text → IsInRange (command_of (words_of text)) × (text ≡ spelling (command_of (words_of text)))
    from (d, range, e) =
        let same : d ≡ command_of (words_of text) =
        sym (command_of-command_words d range)
        ∙ ap command_of (sym (words-command d range) ∙ ap words_of (sym e)) in
        (subst IsInRange same range, e ∙ ap spelling same)

-- the value is a request's object
abbrev IsSomeObject : Data → Type 0
IsSomeObject value = (r : Request) × IsObjectOf r value

object_decided : (value : Data) → Decided (IsSomeObject value)
object_decided (object (member p (string c) (member q (string k) no_members))) =
    decided_by to from (decided_both (decided_both (decided_word p (codes "command")) (decided_word q (codes "key")))
    (decided_both (decided_key k) (spelled_decided c)))
  where
    to : ((p ≡ codes "command") × (q ≡ codes "key")) × (IsKey k × SpellsSome c)
        → IsSomeObject (object (member p (string c) (member q (string k) no_members)))
    to ((e, f), (key, (d, range, g))) =
        (record { key = k; command = d }, record { key = key; command = range; members = cc (e, f, g) })

    from : IsSomeObject (object (member p (string c) (member q (string k) no_members)))
        → ((p ≡ codes "command") × (q ≡ codes "key")) × (IsKey k × SpellsSome c)
    from (r, h) =
        let e = h.members in
        let same : r.key ≡ k = cc e in
        ((cc e, cc e), (subst IsKey same h.key, (r.command, h.command, cc e)))
object_decided _ = inr (λ (r, h). let e = h.members in cc e)

-- the bytes are a request's body
abbrev pub IsSomeBody : List ℕ → Type 0
IsSomeBody body = (r : Request) × IsBodyOf r body

pub body_decided : (body : List ℕ) → Decided (IsSomeBody body)
body_decided body = by (decided_bool (is_utf8 body) true) (read body) refl
  where
    by_object : (value : Data) → IsUtf8 body → read body ≡ Some value → Decided (IsSomeObject value) → Decided (IsSomeBody body)
    by_object value text e (inl (r, h)) =
        inl (r, record { key = h.key; command = h.command; text = text; reads = e ∙ ap Some h.members })
    by_object value text e (inr none) =
        inr (λ (r, h). none (r, record { key = h.key; command = h.command; members = let f = sym e ∙ h.reads in cc f }))

    by : Decided (is_utf8 body ≡ true) → (found : Option Data) → read body ≡ found → Decided (IsSomeBody body)
    by (inr none) found e = inr (λ (r, h). none (is_utf8-from_IsUtf8 body h.text))
    by (inl text) None e = inr (λ (r, h). let f = sym e ∙ h.reads in cc f)
    by (inl text) (Some value) e = by_object value (IsUtf8-from_is_utf8 body text) e (object_decided value)

-- ---- something

-- what is read as a value is some text
pub some_text : (body : List ℕ) (value : Data) → read body ≡ Some value → body ≢ []
unfolding serde_json_on_literals
some_text body value reads none = let e : None ≡ Some value = ap read (sym none) ∙ reads in cc e
