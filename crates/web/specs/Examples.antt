-- Worked examples: answers as bytes.
use Rattle.std.specs.Prelude.{◌≡◌, ℕ, false, true, List, [], ◌∷◌, ◌++◌, codes}
use Rattle.escrow.specs.declared.quantity.Way.{Way}
use Rattle.escrow.specs.declared.quantity.Way.TheVariants.{Add, Take}
use Rattle.words.specs.declared.command.Command.TheVariants.{Firm}
use Rattle.words.specs.declared.reply.Refusal.TheVariants.{TooLittle}
use Rattle.words.specs.declared.reply.Reply.TheVariants.{Done, Refused}
use Rattle.ledger.specs.Ledger.{Kept, Ledger, Order, name_of}
use Rattle.book.specs.declared.book.views.FieldView.{FieldView}
use Rattle.ledger.specs.declared.order.Kind.TheVariants.{Plain, Transfer}
use Rattle.ledger.specs.declared.order.Line.{Line}
use Rattle.ledger.specs.declared.order.State.TheVariants.{Aborted, Committed, Open}
use Rattle.web.specs.Answers.{Answer, answer_bytes, bad_answer, head_line, json_answer, memory_answer, message_answer}
use Rattle.web.specs.Answers.{none_answer, reply_answer, stopped_answer, text_answer}
use Rattle.web.specs.Objects.{branches_object, desk_object, field_object, kept_object, order_object, orders_object}
use Rattle.web.specs.Orders.{due, open_above}

-- the answer is this status line, its two header lines, an empty line and this body
abbrev pub IsBytesOf : Answer → List ℕ → List ℕ → List ℕ → List ℕ → Type 0
IsBytesOf answer status kind length body = answer_bytes answer
    ≡ head_line status ++ head_line (codes "content-type: " ++ kind) ++ head_line (codes "content-length: " ++ length)
    ++ head_line [] ++ body

-- the same, for a body of JSON
abbrev pub IsBytes : Answer → List ℕ → List ℕ → List ℕ → Type 0
IsBytes answer status length body = IsBytesOf answer status (codes "application/json") length body

abbrev pub shown : FieldView
shown = record { branch = codes "N1"; article = codes "A-1"; lo = 0; hi = 100; value = 40; inf = 40; sup = 40 }

abbrev pub taken : Line
taken = record { way = Take; branch = codes "N1"; article = codes "A-1"; held = 35; used = 0 }

abbrev pub opened : Order
opened = record { number = 7; kind = Plain; until = 120; state = Open; firm = false; lines = taken ∷ [] }

-- the same order, used in part and firm
abbrev pub promised : Order
promised = record {
  number = 7;
  kind = Plain;
  until = 120;
  state = Open;
  firm = true;
  lines = record { way = Take; branch = codes "N1"; article = codes "A-1"; held = 15; used = 10 } ∷ [];
}

-- a transfer that has ended
abbrev pub moved : Order
moved = record {
  number = 8;
  kind = Transfer;
  until = 60;
  state = Committed;
  firm = false;
  lines = line Take (codes "N1") ∷ line Add (codes "N2") ∷ [];
}
  where
    line : Way → List ℕ → Line
    line way branch = record { way = way; branch = branch; article = codes "A-1"; held = 5; used = 5 }

-- an order with no line
abbrev pub bare : Order
bare = record { number = 9; kind = Plain; until = 0; state = Aborted; firm = false; lines = [] }

-- what is kept of a command
abbrev pub made_firm : Kept
made_firm = record { key = codes "k-1"; place = 1; command = Firm 7 }

-- one field, three orders of which one is open, and one command
abbrev pub small : Ledger
small = record {
  clock = 5;
  fields = record { name = name_of (codes "N1") (codes "A-1"); lo = 0; hi = 100; start = 40 } ∷ [];
  moves = [];
  orders = opened ∷ moved ∷ bare ∷ [];
  kept = made_firm ∷ [];
}

pub record WorkedAnswers : Type 0 where
  pub none : IsBytes none_answer (codes "HTTP/1.1 404 Not Found") (codes "16") (codes "{\"error\":\"none\"}")
  pub message : IsBytes message_answer (codes "HTTP/1.1 400 Bad Request") (codes "19") (codes "{\"error\":\"message\"}")
  pub stopped : IsBytes stopped_answer (codes "HTTP/1.1 503 Service Unavailable") (codes "19")
      (codes "{\"error\":\"stopped\"}")
  pub memory : IsBytes memory_answer (codes "HTTP/1.1 503 Service Unavailable") (codes "18")
      (codes "{\"error\":\"memory\"}")
  pub bad : IsBytes bad_answer (codes "HTTP/1.1 400 Bad Request") (codes "43")
      (codes "{\"code\":20,\"line\":0,\"refused\":\"BadCommand\"}")
  pub done : IsBytes (reply_answer (Done 1)) (codes "HTTP/1.1 200 OK") (codes "11") (codes "{\"place\":1}")
  pub refused : IsBytes (reply_answer (Refused TooLittle 1)) (codes "HTTP/1.1 409 Conflict") (codes "42")
      (codes "{\"code\":13,\"line\":1,\"refused\":\"TooLittle\"}")
  pub field : IsBytes (json_answer 200 (field_object shown)) (codes "HTTP/1.1 200 OK") (codes "76")
      (codes "{\"article\":\"A-1\",\"branch\":\"N1\",\"hi\":100,\"inf\":40,\"lo\":0,\"sup\":40,\"value\":40}")
  pub order : IsBytes (json_answer 200 (order_object opened)) (codes "HTTP/1.1 200 OK") (codes "128")
      (codes "{\"kind\":\"plain\",\"lines\":[{\"article\":\"A-1\",\"branch\":\"N1\",\"held\":35,\"used\":0,\"way\":\"take\"}],\"number\":7,\"state\":\"open\",\"until\":120}")
  pub promised : IsBytes (json_answer 200 (order_object promised)) (codes "HTTP/1.1 200 OK") (codes "129")
      (codes "{\"kind\":\"plain\",\"lines\":[{\"article\":\"A-1\",\"branch\":\"N1\",\"held\":15,\"used\":10,\"way\":\"take\"}],\"number\":7,\"state\":\"firm\",\"until\":120}")
  pub moved : IsBytes (json_answer 200 (order_object moved)) (codes "HTTP/1.1 200 OK") (codes "196")
      (codes "{\"kind\":\"transfer\",\"lines\":[{\"article\":\"A-1\",\"branch\":\"N1\",\"held\":5,\"used\":5,\"way\":\"take\"},{\"article\":\"A-1\",\"branch\":\"N2\",\"held\":5,\"used\":5,\"way\":\"add\"}],\"number\":8,\"state\":\"committed\",\"until\":60}")
  pub bare : IsBytes (json_answer 200 (order_object bare)) (codes "HTTP/1.1 200 OK") (codes "66")
      (codes "{\"kind\":\"plain\",\"lines\":[],\"number\":9,\"state\":\"aborted\",\"until\":0}")
  pub desk : IsBytes (json_answer 200 (desk_object small)) (codes "HTTP/1.1 200 OK") (codes "53")
      (codes "{\"clock\":5,\"fields\":1,\"open\":1,\"orders\":3,\"places\":1}")
  pub listed : IsBytes (json_answer 200 (orders_object (open_above small 0))) (codes "HTTP/1.1 200 OK") (codes "141")
      (codes "{\"orders\":[{\"kind\":\"plain\",\"lines\":[{\"article\":\"A-1\",\"branch\":\"N1\",\"held\":35,\"used\":0,\"way\":\"take\"}],\"number\":7,\"state\":\"open\",\"until\":120}]}")
  pub none_open : IsBytes (json_answer 200 (orders_object (open_above small 7))) (codes "HTTP/1.1 200 OK") (codes "13")
      (codes "{\"orders\":[]}")
  pub none_due : IsBytes (json_answer 200 (orders_object (due small 119))) (codes "HTTP/1.1 200 OK") (codes "13")
      (codes "{\"orders\":[]}")
  pub one_due : due small 120 ≡ opened ∷ []
  pub branches : IsBytes (json_answer 200 (branches_object (codes "N1" ∷ codes "N2" ∷ []))) (codes "HTTP/1.1 200 OK")
      (codes "24") (codes "{\"branches\":[\"N1\",\"N2\"]}")
  pub kept : IsBytes (json_answer 200 (kept_object made_firm)) (codes "HTTP/1.1 200 OK")
      (codes "30") (codes "{\"command\":\"firm 7\",\"place\":1}")
  pub text : IsBytesOf (text_answer (codes "total\n")) (codes "HTTP/1.1 200 OK") (codes "text/plain") (codes "6")
      (codes "total\n")
