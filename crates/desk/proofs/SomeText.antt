-- For each input there is a text.
use Rattle.std.proofs.Common.{◌≡◌, ℕ, ℤ, pos, negsuc, ◌≤ℤ◌, ◌+ℤ◌, ◌-ℤ◌, List, [], ◌∷◌, ◌++◌, Option, None, Some}
use Rattle.std.proofs.Common.{MatchOption, append_assoc, arith, refl, sym, subst}
use Rattle.std.specs.List.{AllByRecursion as Each}
use Rattle.std.proofs.lemmas.Int.{ints}
use Rattle.escrow.specs.Codes.{IsKey}
use Rattle.words.proofs.OneFeed.{feeds_some_items}
use Rattle.words.specs.Items.{IsItem}
use Rattle.words.specs.Spelling.{IsInRange}
use Rattle.words.specs.Stream.{Ends, EndsOverlong, Feeds}
use Rattle.words.specs.Words.{parts_at}
use Rattle.words.specs.declared.item.Item.{Item}
use Rattle.words.specs.declared.item.Item.TheVariants.{AskField, AskOrder, Bad, Request}
use Rattle.ledger.specs.Good.{Good}
use Rattle.ledger.specs.Ledger.{Field, Ledger, Order, field_named, order_numbered, same_name, name_of}
use Rattle.book.specs.Views.{ShowsField}
use Rattle.book.specs.declared.book.views.FieldView.{FieldView}
use Rattle.ledger.specs.Held.{held_to_add, held_to_take}
use Rattle.ledger.specs.Outcomes.{settled}
use Rattle.ledger.proofs.Bounds.{inf_is, sup_is}
use Rattle.ledger.proofs.Falls.{sounds_from_good}
use Rattle.ledger.proofs.Goodness.{good_answer}
use Rattle.ledger.proofs.Runs.{answered_if_good}
use Rattle.book.proofs.ShownNumbers.{Contains-of_find, levels_of}
use Rattle.desk.specs.Replies.{AnswersField, bad_line, field_line, none_line, order_line, request_line}
use Rattle.desk.specs.Text.{AreItems, IsText, Replies, RepliesAll, unended}
use Rattle.desk.specs.Desk.{DeskState}
use Rattle.desk.specs.Dialogue.{EndsCut, IsCut}
use Rattle.desk.specs.Script.{WritesBeginning, lines}
use Rattle.desk.specs.Streams.{Streams}
use Rattle.desk.specs.declared.fault.ScriptFault.{ScriptFault}
use Rattle.desk.proofs.LineAnswers.{are_told}
use Rattle.desk.proofs.Texts.{replies_joined}

-- ---- the requests of a stream are in range

abbrev pub IsItemInRange : Item → Type 0
IsItemInRange (Request r) = IsKey r.key × IsInRange r.command
IsItemInRange (AskField b a) = Unit {0}
IsItemInRange (AskOrder n) = Unit {0}
IsItemInRange Bad = Unit {0}

item_in_range : (line : List ℕ) (item : Item) → IsItem line item → IsItemInRange item
item_in_range line (Request r) h = (h.1.0, h.1.1)
item_in_range line (AskField b a) h = tt
item_in_range line (AskOrder n) h = tt
item_in_range line Bad h = tt

ends_in_range : (parts : List (List ℕ)) (items : List Item) (new : Option (List ℕ)) → Ends parts items new
    → Each IsItemInRange items
ends_in_range [] items new h = absurd h
ends_in_range (last ∷ []) items new h = subst (λ (xs : List Item). Each IsItemInRange xs) (sym h.0) tt
ends_in_range (line ∷ next ∷ parts) [] new h = absurd h
ends_in_range (line ∷ next ∷ parts) (item ∷ items) new h =
    (item_in_range line item h.0, ends_in_range (next ∷ parts) items new h.1)

overlong_in_range : (parts : List (List ℕ)) (items : List Item) (new : Option (List ℕ)) → EndsOverlong parts items new
    → Each IsItemInRange items
overlong_in_range [] items new h = absurd h
overlong_in_range (last ∷ []) items new h = subst (λ (xs : List Item). Each IsItemInRange xs) (sym h.0) tt
overlong_in_range (line ∷ next ∷ parts) items new (more, e, h) =
    subst (λ (xs : List Item). Each IsItemInRange xs) (sym e) (tt, ends_in_range (next ∷ parts) more new h)

feeds_in_range : (old : Option (List ℕ)) (piece : List ℕ) (items : List Item) (new : Option (List ℕ))
    → Feeds old piece items new → Each IsItemInRange items
feeds_in_range None piece items new h = overlong_in_range (parts_at 10 piece) items new h
feeds_in_range (Some rest) piece items new h = ends_in_range (parts_at 10 (rest ++ piece)) items new h

-- ---- a good ledger has a reply to each item, and stays good

natural : (z : ℤ) → pos 0 ≤ℤ z → (n : ℕ) × (pos n ≡ z)
natural (pos n) h = (n, refl)
natural (negsuc n) h = absurd (omega (arith, ints, h))

field_shown : (A : Ledger) (b a : List ℕ) (f : Field) → Good A → field_named A (name_of b a) ≡ Some f
    → (line : List ℕ) × AnswersField A f line
field_shown A b a f g there =
    let levels = levels_of A f g (Contains-of_find (λ e. same_name (name_of b a) e.name) A.fields f there) in
    let least = levels.least in let low = levels.inf in let high = levels.sup in
    let value = natural (settled A f) (omega (arith, ints)) in
    let inf = natural (settled A f -ℤ held_to_take A f.name) least in
    let sup = natural (settled A f +ℤ held_to_add A f.name) (omega (arith, ints)) in
    let sound = sounds_from_good A g in
    let view : FieldView = record {
      branch = f.name.branch;
      article = f.name.article;
      lo = f.lo;
      hi = f.hi;
      value = value.0;
      inf = inf.0;
      sup = sup.0;
    } in
    let shows : ShowsField A f view = record {
      name = refl;
      lo = refl;
      hi = refl;
      value = value.1;
      inf = rw (inf.1) (inf_is A sound f);
      sup = rw (sup.1) (sup_is A sound f);
    } in
    (field_line view, (view, shows, refl))

some_reply : (old : Ledger) (item : Item) → Good old → (line : List ℕ) × (new : Ledger) × Replies old item line new
some_reply old (Request r) g =
    let answer = answered_if_good old r g in (request_line r.key answer.0, answer.1, (answer.0, answer.2, refl))
some_reply old (AskField b a) g =
    let line = by (field_named old (name_of b a)) (λ f e. field_shown old b a f g e) in (line.0, old, (line.1, refl))
  where
    by : (found : Option Field) → ((f : Field) → found ≡ Some f → (line : List ℕ) × AnswersField old f line)
        → (line : List ℕ) × MatchOption found (line ≡ none_line) (λ f. AnswersField old f line)
    by None shown = (none_line, refl)
    by (Some f) shown = shown f refl
some_reply old (AskOrder n) g = let line = by (order_numbered old n) in (line.0, old, (line.1, refl))
  where
    by : (found : Option Order) → (line : List ℕ) × MatchOption found (line ≡ none_line) (λ o. line ≡ order_line o)
    by None = (none_line, refl)
    by (Some o) = (order_line o, refl)
some_reply old Bad g = (bad_line, old, (refl, refl))

good_after : (old : Ledger) (item : Item) (line : List ℕ) (new : Ledger) → Good old → IsItemInRange item
    → Replies old item line new → Good new
good_after old (Request r) line new g w h = good_answer old r h.0 new g w.0 w.1 h.1
good_after old (AskField b a) line new g w h = subst Good (sym h.1) g
good_after old (AskOrder n) line new g w h = subst Good (sym h.1) g
good_after old Bad line new g w h = subst Good (sym h.1) g

some_replies : (items : List Item) (old : Ledger) → Good old → Each IsItemInRange items
    → (out : List ℕ) × (new : Ledger) × RepliesAll old items out new
some_replies [] old g w = ([], old, (refl, refl))
some_replies (item ∷ items) old g w =
    let first = some_reply old item g in
    let more = some_replies items first.1 (good_after old item first.0 first.1 g w.0 first.2) w.1 in
    (first.0 ++ more.0, more.1, (first.0, first.1, more.0, first.2, more.2, refl))

pub good_after_all : (items : List Item) (old : Ledger) (out : List ℕ) (new : Ledger) → Good old
    → Each IsItemInRange items → RepliesAll old items out new → Good new
good_after_all [] old out new g w h = subst Good (sym h.1) g
good_after_all (item ∷ items) old out new g w (line, mid, rest, reply, others, e) =
    good_after_all items mid rest new (good_after old item line mid g w.0 reply) w.1 others

-- the items of an input are in range
pub items_in_range : (input : List ℕ) (items : List Item) → AreItems input items → Each IsItemInRange items
items_in_range input items h = subst (λ (xs : List Item). Each IsItemInRange xs) (sym h.all)
    (each-append h.ended (unended h.rest) (feeds_in_range (Some []) input h.ended h.rest h.feeds) (unended_in_range h.rest))
  where
    unended_in_range : (rest : Option (List ℕ)) → Each IsItemInRange (unended rest)
    unended_in_range None = (tt, tt)
    unended_in_range (Some []) = tt
    unended_in_range (Some (byte ∷ bytes)) = (tt, tt)

    each-append : (xs ys : List Item) → Each IsItemInRange xs → Each IsItemInRange ys → Each IsItemInRange (xs ++ ys)
    each-append [] ys h k = k
    each-append (x ∷ xs) ys h k = (h.0, each-append xs ys h.1 k)

-- what stands behind items that are in range is so, too
behind_in_range : (xs ys : List Item) → Each IsItemInRange (xs ++ ys) → Each IsItemInRange ys
behind_in_range [] ys h = h
behind_in_range (x ∷ xs) ys h = behind_in_range xs ys h.1

-- what stands before others is so, too
pub front_in_range : (xs ys : List Item) → Each IsItemInRange (xs ++ ys) → Each IsItemInRange xs
front_in_range [] ys h = tt
front_in_range (x ∷ xs) ys h = (h.0, front_in_range xs ys h.1)

-- every input has items
pub some_items : (input : List ℕ) → (items : List Item) × AreItems input items
some_items input = let fed = feeds_some_items (Some []) input in
    (fed.0 ++ unended fed.1, record { ended = fed.0; rest = fed.1; feeds = fed.2; all = refl })

pub some_text : (old : Ledger) (input : List ℕ) → Good old → (out : List ℕ) × (new : Ledger) × IsText old input out new
some_text old input good =
    let items = some_items input in
    let lines = some_replies items.0 old good (items_in_range input items.0 items.1) in
    (lines.0, lines.1, record { items = items.0; are_items = items.1; replies = lines.2 })

-- the text goes on behind the lines of the first items
pub text_on : (old mid : Ledger) (input lines : List ℕ) (items answered left : List Item) → Good mid
    → AreItems input items → items ≡ answered ++ left → RepliesAll old answered lines mid
    → (more : List ℕ) × (new : Ledger) × IsText old input (lines ++ more) new
text_on old mid input lines items answered left good are split replies =
    let range =
    behind_in_range answered left
    (subst (λ (xs : List Item). Each IsItemInRange xs) split (items_in_range input items are)) in
    let more = some_replies left mid good range in (
      more.0,
      more.1,
      record {
        items = items;
        are_items = are;
        replies =
            subst (λ (xs : List Item). RepliesAll old xs (lines ++ more.0) more.1) (sym split)
            (replies_joined answered left old mid more.1 lines more.0 replies more.2);
      },
    )

-- the text goes on behind what is written at a fault
pub text_from : (fault : ScriptFault) (before behind : DeskState) (input written : List ℕ) (items : List Item)
    → Good before.ledger → AreItems input items
    → IsCut lines fault before items written behind
    → (more : List ℕ) × (last : Ledger) × IsText before.ledger input (written ++ more) last
text_from fault before behind input written items good are cut =
    let told = are_told fault before behind items written cut in
    let range =
    front_in_range cut.answered cut.left
    (subst (λ (xs : List Item). Each IsItemInRange xs) cut.split (items_in_range input items are)) in
    let (more, last, text) =
    text_on before.ledger behind.ledger input (written ++ told.left) items cut.answered cut.left
    (good_after_all cut.answered before.ledger (written ++ told.left) behind.ledger good range told.all) are
    cut.split told.all in (
      told.left ++ more,
      last,
      subst (λ (out : List ℕ). IsText before.ledger input out last) (append_assoc written told.left more) text,
    )

-- a script that is cut has written a beginning of its text
pub script_begins : (fault : ScriptFault) (old new : DeskState) (s : Streams) → Good old.ledger
    → EndsCut lines fault old new s → WritesBeginning old.ledger s
script_begins fault old new s good ends =
    let (unwritten, last, text) =
    text_from fault old new ends.read ends.written ends.questions good ends.are_questions ends.cut in
    record {
      read = ends.read;
      written = ends.written;
      unwritten = unwritten;
      last = last;
      reads = ends.reads;
      writes = ends.writes;
      text = text;
    }
