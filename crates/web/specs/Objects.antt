-- The JSON objects of bodies, their members in the order of their names.
use Rattle.std.specs.Prelude.{ℕ, List, [], ◌∷◌, codes, length, map, option_map, unwrap_or}
use Rattle.serde_json.specs.Data.{Data, Members, array, member, no_members, null, number, object, string, unsigned}
use Rattle.serde_json.specs.View.{items_of}
use Rattle.words.specs.OpenLines.{way_word}
use Rattle.words.specs.Spelling.{spelling}
use Rattle.words.specs.Replies.{refusal_code, refusal_name}
use Rattle.words.specs.declared.reply.Refusal.{Refusal}
use Rattle.ledger.specs.Ledger.{Kept, Ledger, Order, open_orders, order_numbered, places, shown_state}
use Rattle.book.specs.declared.book.views.FieldView.{FieldView}
use Rattle.book.specs.declared.book.views.OrderView.{OrderView}
use Rattle.ledger.specs.declared.order.Kind.{Kind}
use Rattle.ledger.specs.declared.order.Line.{Line}
use Rattle.ledger.specs.declared.order.Standing.{Standing}
use Rattle.desk.specs.Replies.{kind_word, state_word}

-- a name and its value
abbrev pub Member : Type 0
Member = List ℕ × Data

abbrev pub members : List Member → Members
members [] = no_members
members (m ∷ ms) = member m.0 m.1 (members ms)

abbrev pub object_of : List Member → Data
object_of ms = object (members ms)

abbrev pub natural : ℕ → Data
natural n = number (unsigned n)

-- {"command":"COMMAND","key":"KEY"}
abbrev pub command_object : List ℕ → List ℕ → Data
command_object key command = object_of ((codes "command", string command) ∷ (codes "key", string key) ∷ [])

-- {"command":"COMMAND","place":N}
abbrev pub placed_object : List ℕ → ℕ → Data
placed_object command place = object_of ((codes "command", string command) ∷ (codes "place", natural place) ∷ [])

abbrev pub kept_object : Kept → Data
kept_object k = placed_object (spelling k.command) k.place

-- {"error":"NAME"}
abbrev pub error_object : List ℕ → Data
error_object name = object_of ((codes "error", string name) ∷ [])

-- {"place":N}
abbrev pub place_object : ℕ → Data
place_object place = object_of ((codes "place", natural place) ∷ [])

-- {"code":C,"line":L,"refused":"NAME"}
abbrev pub refused_object : Refusal → ℕ → Data
refused_object refusal line =
    object_of ((codes "code", natural (refusal_code refusal)) ∷ (codes "line", natural line)
    ∷ (codes "refused", string (refusal_name refusal)) ∷ [])

-- {"clock":C,"fields":F,"open":O,"orders":N,"places":P}
abbrev pub desk_object : Ledger → Data
desk_object A =
    object_of ((codes "clock", natural A.clock) ∷ (codes "fields", natural (length A.fields))
    ∷ (codes "open", natural (open_orders A)) ∷ (codes "orders", natural (length A.orders))
    ∷ (codes "places", natural (places A)) ∷ [])

-- ["B",..]
abbrev pub texts : List (List ℕ) → Data
texts branches = array (items_of (map string branches))

-- {"branches":["B",..]}
abbrev pub branches_object : List (List ℕ) → Data
branches_object branches = object_of ((codes "branches", texts branches) ∷ [])

-- {"article":"A","branch":"B","hi":HI,"inf":I,"lo":LO,"sup":S,"value":V}
abbrev pub field_object : FieldView → Data
field_object v =
    object_of ((codes "article", string v.article) ∷ (codes "branch", string v.branch) ∷ (codes "hi", natural v.hi)
    ∷ (codes "inf", natural v.inf) ∷ (codes "lo", natural v.lo) ∷ (codes "sup", natural v.sup)
    ∷ (codes "value", natural v.value) ∷ [])

-- {"article":"A","branch":"B","held":H,"used":U,"way":"WAY"}
abbrev pub line_object : Line → Data
line_object l =
    object_of ((codes "article", string l.article) ∷ (codes "branch", string l.branch) ∷ (codes "held", natural l.held)
    ∷ (codes "used", natural l.used) ∷ (codes "way", string (way_word l.way)) ∷ [])

-- [LINE,..]
abbrev pub line_objects : List Line → Data
line_objects lines = array (items_of (map line_object lines))

-- {"kind":"KIND","lines":[LINE,..],"number":N,"state":"STATE","until":UNTIL}
abbrev pub shown_object : ℕ → Kind → ℕ → Standing → List Line → Data
shown_object order kind until state lines =
    object_of ((codes "kind", string (kind_word kind)) ∷ (codes "lines", line_objects lines)
    ∷ (codes "number", natural order)
    ∷ (codes "state", string (state_word state)) ∷ (codes "until", natural until) ∷ [])

abbrev pub order_object : Order → Data
order_object o = shown_object o.number o.kind o.until (shown_state o.state o.firm) o.lines

-- the object of what the view shows
abbrev pub view_object : OrderView → Data
view_object v = shown_object v.number v.kind v.until v.state v.lines.now

-- {"orders":[ORDER,..]}
abbrev pub orders_object : List Order → Data
orders_object orders = object_of ((codes "orders", array (items_of (map order_object orders))) ∷ [])

-- ---- how they are written (private)

-- the object of the order of that number, or null
abbrev pub numbered_object : Ledger → ℕ → Data
numbered_object A n = unwrap_or (option_map order_object (order_numbered A n)) null

abbrev pub listed_objects : Ledger → List ℕ → Data
listed_objects A numbers = array (items_of (map (numbered_object A) numbers))

abbrev pub listed_object : Ledger → List ℕ → Data
listed_object A numbers = object_of ((codes "orders", listed_objects A numbers) ∷ [])
