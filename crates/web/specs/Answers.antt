-- Answers, and their bytes.
use Rattle.std.specs.Prelude.{ℕ, List, [], ◌∷◌, ◌++◌, codes, decimal, length, unwrap_or}
use Rattle.http.specs.StatusCode.{code_digits, reason_phrase}
use Rattle.serde_json.specs.Data.{Data}
use Rattle.serde_json.specs.Written.{compact_text}
use Rattle.words.specs.declared.reply.Refusal.TheVariants.{BadCommand}
use Rattle.words.specs.declared.reply.Reply.{Reply}
use Rattle.words.specs.declared.reply.Reply.TheVariants.{Done, Refused}
use Rattle.web.specs.Objects.{error_object, place_object, refused_object}

-- an answer: its status, the type of its body, and its body
pub record Answer : Type 0 where
  pub status : ℕ
  pub kind : List ℕ
  pub body : List ℕ

-- ---- bytes

-- a line of a head, which CR LF ends
abbrev pub head_line : List ℕ → List ℕ
head_line text = text ++ 13 ∷ 10 ∷ []

abbrev pub status_line : ℕ → List ℕ
status_line status =
    head_line (codes "HTTP/1.1 " ++ code_digits status ++ codes " " ++ unwrap_or (reason_phrase status) [])

abbrev pub header_line : List ℕ → List ℕ → List ℕ
header_line name value = head_line (name ++ codes ": " ++ value)

-- the status line, the two header lines, an empty line, and the body
abbrev pub answer_bytes : Answer → List ℕ
answer_bytes a = status_line a.status
    ++ header_line (codes "content-type") a.kind
    ++ header_line (codes "content-length") (decimal (length a.body))
    ++ head_line [] ++ a.body

-- ---- the kinds of answers

-- a text of JSON
abbrev pub json_of : ℕ → List ℕ → Answer
json_of status text = record { status = status; kind = codes "application/json"; body = text }

abbrev pub json_answer : ℕ → Data → Answer
json_answer status d = json_of status (compact_text d)

abbrev pub text_answer : List ℕ → Answer
text_answer text = record { status = 200; kind = codes "text/plain"; body = text }

-- ---- fixed answers

-- nothing is there under that target
abbrev pub none_answer : Answer
none_answer = json_answer 404 (error_object (codes "none"))

-- what came is no message
abbrev pub message_answer : Answer
message_answer = json_answer 400 (error_object (codes "message"))

-- the desk is stopped
abbrev pub stopped_answer : Answer
stopped_answer = json_answer 503 (error_object (codes "stopped"))

-- memory was refused for the answer
abbrev pub memory_answer : Answer
memory_answer = json_answer 503 (error_object (codes "memory"))

-- the body is no command
abbrev pub bad_answer : Answer
bad_answer = json_answer 400 (refused_object BadCommand 0)

-- ---- answers to commands

abbrev pub reply_answer : Reply → Answer
reply_answer (Done place) = json_answer 200 (place_object place)
reply_answer (Refused refusal line) = json_answer 409 (refused_object refusal line)
