-- The words that the program takes, and the task that they ask for, as `clap` sees them.
use Rattle.std.specs.Prelude.{◌≡◌, ◌≢◌, ◌<◌, ◌≤◌, ◌∷◌, ◌++◌, ◌^◌, [], Bool, IfSome, List, None, Option, Some, false, true, codes}
use Rattle.std.specs.Prelude.{decimal, ℕ}
use Rattle.std.specs.Int.NonZero.{non_zero_usize_get}
use Rattle.std.specs.declared.num.NonZeroUsize.{NonZeroUsize}
use Rattle.clap.specs.Words.{App, Row, Rule, Text, first_of, new_app, new_rule, with_rule, with_subcommand}
use Rattle.clap.specs.declared.builder.action.ArgAction.TheVariants.{Set}
use Rattle.escrow.specs.Codes.{IsArticle, IsBranch}
use Rattle.command_line.specs.declared.work.AtOnce.{AtOnce}
use Rattle.command_line.specs.declared.work.Service.{Service}
use Rattle.command_line.specs.declared.work.SheetOf.TheVariants.{Article, Branch}
use Rattle.command_line.specs.declared.rolls.RollOver.{RollOver}
use Rattle.command_line.specs.declared.tasks.Task.{Task}
use Rattle.command_line.specs.declared.tasks.Task.TheVariants.{InFile, InMemory, Init, Roll, Upgrade}
use Rattle.command_line.specs.declared.work.Work.{Work}
use Rattle.command_line.specs.declared.work.Work.TheVariants.{Requests, Script, Serve, ServeAtOnce, Sheet}
use Rattle.command_line.specs.declared.work.Kind.{Kind}
use Rattle.command_line.specs.declared.work.Kind.TheVariants.{Bounds, Deliveries, Orders}

-- a word with that name
abbrev pub word : Text → Rule
word name = record (new_rule name) { action = Some Set }

-- a word with that name, which must be given
abbrev pub needed : Text → Rule
needed name = record (word name) { required = true }

-- an option with that name, and a word behind it; it must be given, or may be left out
abbrev pub option : Bool → Text → Rule
option required name = record (word name) { long = Some name; value_names = 1; required = required }

-- a command with a file
abbrev pub on_path : Text → App
on_path name = with_rule (new_app name) (needed (codes "FILE"))

-- `init FILE`
abbrev pub init : App
init = on_path (codes "init")

-- `run [FILE]`
abbrev pub run : App
run = with_rule (new_app (codes "run")) (word (codes "FILE"))

-- a command with a file and one word more
abbrev pub on_file : Text → Text → App
on_file name second = with_rule (on_path name) (needed second)

-- a command with a file of requests, `FILE CSV [--together N]`
abbrev pub on_requests : Text → App
on_requests name = with_rule (on_file name (codes "CSV")) (option false (codes "together"))

-- `orders FILE CSV [--together N]`
abbrev pub orders : App
orders = on_requests (codes "orders")

-- `deliveries FILE CSV [--together N]`
abbrev pub deliveries : App
deliveries = on_requests (codes "deliveries")

-- `bounds FILE CSV [--together N]`
abbrev pub bounds : App
bounds = on_requests (codes "bounds")

-- `sheet FILE BRANCH`
abbrev pub sheet : App
sheet = on_file (codes "sheet") (codes "BRANCH")

-- `article FILE ARTICLE`
abbrev pub article : App
article = on_file (codes "article") (codes "ARTICLE")

-- `serve FILE --port N --connections N`
abbrev pub serve_in_turn : App
serve_in_turn =
    with_rule (with_rule (on_path (codes "serve")) (option true (codes "port"))) (option true (codes "connections"))

-- `serve FILE --port N --connections N [--together N] [--clients N]`
abbrev pub serve_at_once : App
serve_at_once = with_rule (with_rule serve_in_turn (option false (codes "together"))) (option false (codes "clients"))

-- `serve FILE --port N --connections N [--together N] [--clients N] [--places N]`
abbrev pub serve : App
serve = with_rule serve_at_once (option false (codes "places"))

-- `upgrade FILE`
abbrev pub upgrade : App
upgrade = on_path (codes "upgrade")

-- `roll OLD NEW`
abbrev pub roll_files : App
roll_files = with_rule (with_rule (new_app (codes "roll")) (needed (codes "OLD"))) (needed (codes "NEW"))

-- `roll OLD NEW [--keys N]`
abbrev pub roll : App
roll = with_rule roll_files (option false (codes "keys"))

-- two commands more
abbrev pub with_both : App → App → App → App
with_both app first second = with_subcommand (with_subcommand app first.top) second.top

-- the program's name, and one of the commands of scripts
abbrev pub scripts : App
scripts = let named =
    new_app (codes "stockdesk") in with_both
    (record named { top = record named.top { subcommand_required = true } }) init run

-- the program with all ten commands
abbrev pub stockdesk : App
stockdesk = with_subcommand (with_both
    (with_both (with_subcommand (with_both scripts orders deliveries) bounds.top) sheet article) serve upgrade) roll.top

-- the words are the numbers of that service, which are in their ranges
pub record IsService (port connections : Text) (service : Service) : Type 0 where
  pub port_is : port ≡ decimal service.port
  pub connections_are : connections ≡ decimal service.connections
  pub is_port : service.port < 2 ^ 16
  pub some : 1 ≤ service.connections
  pub not_many : service.connections ≤ 1000000

-- where there is a word, it says how many, at most so many as the limit
abbrev pub AsksAtMost : ℕ → Option Text → Option NonZeroUsize → Type 0
AsksAtMost limit None most = most ≡ None
AsksAtMost limit (Some word) most = (count : NonZeroUsize) × (most ≡ Some count)
    × (word ≡ decimal (non_zero_usize_get count)) × (non_zero_usize_get count ≤ limit)

-- so many are carried out together, at most a thousand; without a word, each is alone
abbrev pub AsksTogether : Option Text → Option NonZeroUsize → Type 0
AsksTogether word together = AsksAtMost 1000 word together

-- the words are the numbers of a service of many connections at once, and are in their ranges
pub record IsAtOnce (together : Text) (clients places : Option Text) (at_once : AtOnce) : Type 0 where
  pub together_is : AsksAtMost 1000 (Some together) (Some at_once.together)
  pub clients_are : AsksAtMost 4000 clients at_once.clients
  pub places_are : AsksAtMost 200000 places at_once.places

-- the command that reads files of that kind
abbrev pub command_of : Kind → Text
command_of Orders = codes "orders"
command_of Deliveries = codes "deliveries"
command_of Bounds = codes "bounds"

-- what was found behind the command asks for that port, and so many connections
abbrev pub AsksForService : List Row → Service → Type 0
AsksForService rows service = (port : Text) × (connections : Text)
    × (first_of (codes "port") rows ≡ Some port) × (first_of (codes "connections") rows ≡ Some connections)
    × IsService port connections service

-- a command, with what was found behind it but for the file of a desk, asks for this work
abbrev pub AsksForWork : Text → List Row → Work → Type 0
AsksForWork name rows Script = name ≡ codes "run"
AsksForWork name rows (Requests kind csv together) = (name ≡ command_of kind)
    × (first_of (codes "CSV") rows ≡ Some csv.now) × AsksTogether (first_of (codes "together") rows) together
AsksForWork name rows (Sheet (Branch branch)) =
    (name ≡ codes "sheet") × (first_of (codes "BRANCH") rows ≡ Some branch)
AsksForWork name rows (Sheet (Article article)) =
    (name ≡ codes "article") × (first_of (codes "ARTICLE") rows ≡ Some article)
AsksForWork name rows (Serve service) = (name ≡ codes "serve") × (first_of (codes "together") rows ≡ None)
    × (first_of (codes "clients") rows ≡ None) × (first_of (codes "places") rows ≡ None) × AsksForService rows service
AsksForWork name rows (ServeAtOnce service at_once) = (name ≡ codes "serve") × ((together : Text)
    × (first_of (codes "together") rows ≡ Some together)
    × IsAtOnce together (first_of (codes "clients") rows) (first_of (codes "places") rows) at_once)
    × AsksForService rows service

-- where there is a word, it says how many keys, at most 200000
abbrev pub AsksForKeys : Option Text → Option ℕ → Type 0
AsksForKeys None keys = keys ≡ None
AsksForKeys (Some word) keys = (count : ℕ) × (keys ≡ Some count) × (word ≡ decimal count) × (count ≤ 200000)

-- what was found behind the command names those two files, and so many keys
abbrev pub AsksForRollOver : List Row → RollOver → Type 0
AsksForRollOver rows roll_over = (first_of (codes "OLD") rows ≡ Some roll_over.old.now)
    × (first_of (codes "NEW") rows ≡ Some roll_over.new.now)
    × AsksForKeys (first_of (codes "keys") rows) roll_over.keys

-- the first word behind the program's name, with what was found behind that, asks for this task
abbrev pub AsksFor : Text → List Row → Task → Type 0
AsksFor name rows (Init path) = (name ≡ codes "init") × (first_of (codes "FILE") rows ≡ Some path.now)
AsksFor name rows (Upgrade path) = (name ≡ codes "upgrade") × (first_of (codes "FILE") rows ≡ Some path.now)
AsksFor name rows (Roll roll_over) = (name ≡ codes "roll") × AsksForRollOver rows roll_over
AsksFor name rows InMemory = (name ≡ codes "run") × (first_of (codes "FILE") rows ≡ None)
AsksFor name rows (InFile path work) = (first_of (codes "FILE") rows ≡ Some path.now) × AsksForWork name rows work

-- what was found among the words asks for this task
abbrev pub Asks : Option (Text × List Row) → Task → Type 0
Asks found task = (name : Text) × (rows : List Row) × (found ≡ Some (name, rows)) × AsksFor name rows task

-- ---- the words for a task, written out

-- the word is no option: it begins with no hyphen
abbrev pub IsNoOption : Text → Type 0
IsNoOption [] = Unit {0}
IsNoOption (first ∷ rest) = first ≢ 45

-- the words that say how many together
abbrev pub together_words : Option NonZeroUsize → List Text
together_words None = []
together_words (Some most) = codes "--together" ∷ decimal (non_zero_usize_get most) ∷ []

-- the words that say how many at once
abbrev pub clients_words : Option NonZeroUsize → List Text
clients_words None = []
clients_words (Some most) = codes "--clients" ∷ decimal (non_zero_usize_get most) ∷ []

-- the words that say with how many places a service ends
abbrev pub places_words : Option NonZeroUsize → List Text
places_words None = []
places_words (Some most) = codes "--places" ∷ decimal (non_zero_usize_get most) ∷ []

-- the words for work on the desk in a file
abbrev pub work_words : Text → Work → List Text
work_words path Script = codes "run" ∷ path ∷ []
work_words path (Requests kind csv together) = command_of kind ∷ path ∷ csv.now ∷ together_words together
work_words path (Sheet (Branch branch)) = codes "sheet" ∷ path ∷ branch ∷ []
work_words path (Sheet (Article article)) = codes "article" ∷ path ∷ article ∷ []
work_words path (Serve service) = codes "serve" ∷ path ∷ codes "--port" ∷ decimal service.port
    ∷ codes "--connections" ∷ decimal service.connections ∷ []
work_words path (ServeAtOnce service at_once) = codes "serve" ∷ path ∷ codes "--port" ∷ decimal service.port
    ∷ codes "--connections" ∷ decimal service.connections
    ∷ codes "--together" ∷ decimal (non_zero_usize_get at_once.together)
    ∷ clients_words at_once.clients ++ places_words at_once.places

-- the words that say how many keys
abbrev pub keys_words : Option ℕ → List Text
keys_words None = []
keys_words (Some keys) = codes "--keys" ∷ decimal keys ∷ []

-- the words for a task, behind the program's name
abbrev pub task_words : Task → List Text
task_words (Init path) = codes "init" ∷ path.now ∷ []
task_words (Upgrade path) = codes "upgrade" ∷ path.now ∷ []
task_words (Roll roll_over) = codes "roll" ∷ roll_over.old.now ∷ roll_over.new.now ∷ keys_words roll_over.keys
task_words InMemory = codes "run" ∷ []
task_words (InFile path work) = work_words path.now work

-- where it is said how many, that is from 1 to the limit
abbrev pub AreAtMost : ℕ → Option NonZeroUsize → Type 0
AreAtMost limit None = Unit {0}
AreAtMost limit (Some most) = (1 ≤ non_zero_usize_get most) × (non_zero_usize_get most ≤ limit)

-- where it is said how many, that is from 1 to a thousand
abbrev pub IsFew : Option NonZeroUsize → Type 0
IsFew most = AreAtMost 1000 most

-- the numbers of the service are in range
abbrev pub IsServiceToAsk : Service → Type 0
IsServiceToAsk service = (service.port < 2 ^ 16) × (1 ≤ service.connections) × (service.connections ≤ 1000000)

-- the work can be asked for: the name of its file is no option, its code has the form, and its numbers are in range
abbrev pub IsWorkToAsk : Work → Type 0
IsWorkToAsk Script = Unit {0}
IsWorkToAsk (Requests kind csv together) = IsNoOption csv.now × IsFew together
IsWorkToAsk (Sheet (Branch branch)) = IsBranch branch
IsWorkToAsk (Sheet (Article article)) = IsArticle article
IsWorkToAsk (Serve service) = IsServiceToAsk service
IsWorkToAsk (ServeAtOnce service at_once) = IsServiceToAsk service × IsFew (Some at_once.together)
    × AreAtMost 4000 at_once.clients × AreAtMost 200000 at_once.places

-- the roll-over can be asked for: the names of its files are no options, and its number is in range
abbrev pub IsRollOverToAsk : RollOver → Type 0
IsRollOverToAsk roll_over = IsNoOption roll_over.old.now × IsNoOption roll_over.new.now
    × IfSome roll_over.keys (λ keys. keys ≤ 200000)

-- the task can be asked for: the names of its files are no options, and its work or its roll-over can be asked for
abbrev pub IsToAsk : Task → Type 0
IsToAsk (Init path) = IsNoOption path.now
IsToAsk (Upgrade path) = IsNoOption path.now
IsToAsk (Roll roll_over) = IsRollOverToAsk roll_over
IsToAsk InMemory = Unit {0}
IsToAsk (InFile path work) = IsNoOption path.now × IsWorkToAsk work

-- the words are the program's name, and those for this task, which can be asked for
abbrev pub AreWordsFor : Task → List Text → Type 0
AreWordsFor task words = (name : Text) × (words ≡ name ∷ task_words task) × IsToAsk task

-- ---- which words are taken (private)

-- what was found behind the command gives a service, of one connection after the other or of many at once
pub record TakesService (rows : List Row) (Taken : Type 0) : Type 0 where
  pub in_turn : (service : Service) → first_of (codes "together") rows ≡ None → first_of (codes "clients") rows ≡ None
      → first_of (codes "places") rows ≡ None → AsksForService rows service → Taken
  pub at_once : (together : Text) (service : Service) (at_once : AtOnce) → first_of (codes "together") rows ≡ Some together
      → IsAtOnce together (first_of (codes "clients") rows) (first_of (codes "places") rows) at_once
      → IsFew (Some at_once.together) → AreAtMost 4000 at_once.clients → AreAtMost 200000 at_once.places
      → AsksForService rows service → Taken

-- a command, with what was found behind it, gives work
pub record TakesWork (name : Text) (rows : List Row) (Taken : Type 0) : Type 0 where
  pub of_script : name ≡ codes "run" → Taken
  pub of_requests : (kind : Kind) (csv : Text) (together : Option NonZeroUsize) → name ≡ command_of kind
      → first_of (codes "CSV") rows ≡ Some csv → AsksTogether (first_of (codes "together") rows) together
      → IsFew together → Taken
  pub of_branch : (branch : Text) → name ≡ codes "sheet" → first_of (codes "BRANCH") rows ≡ Some branch
      → IsBranch branch → Taken
  pub of_article : (article : Text) → name ≡ codes "article" → first_of (codes "ARTICLE") rows ≡ Some article
      → IsArticle article → Taken
  pub of_service : name ≡ codes "serve" → TakesService rows Taken

-- a command with the file of a desk gives a task
pub record TakesOn (name : Text) (rows : List Row) (Taken : Type 0) : Type 0 where
  pub of_init : name ≡ codes "init" → Taken
  pub of_upgrade : name ≡ codes "upgrade" → Taken
  pub of_work : TakesWork name rows Taken

-- a command gives a task on one desk
pub record TakesOnOne (name : Text) (rows : List Row) (Taken : Type 0) : Type 0 where
  pub on_file : (path : Text) → first_of (codes "FILE") rows ≡ Some path → TakesOn name rows Taken
  pub in_memory : name ≡ codes "run" → first_of (codes "FILE") rows ≡ None → Taken

-- a command gives a task
pub record Takes (name : Text) (rows : List Row) (Taken : Type 0) : Type 0 where
  pub of_one : name ≢ codes "roll" → TakesOnOne name rows Taken
  pub of_roll_over : (roll_over : RollOver) → name ≡ codes "roll" → AsksForRollOver rows roll_over → Taken
