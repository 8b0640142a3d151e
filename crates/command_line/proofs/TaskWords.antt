-- What `clap` makes of the words for a task.
use Rattle.std.proofs.Common.{◌≡◌, ◌<◌, ◌∙◌, ◌&&◌, ◌++◌, ◌^◌, [], ◌∷◌, arith, Bool, Bor, IfSome, IsSome, IsTrue, List, None}
use Rattle.std.proofs.Common.{Option, Some, ap, codes, decimal, false, get_or, length, refl, subst, suc, sym, true}
use Rattle.std.proofs.Common.{true≢false, zero, ℕ}
use Rattle.std.specs.List.{list_all}
use Rattle.std.specs.Str.{bytes_eq}
use Rattle.std.specs.Int.NonZero.{non_zero_usize_get}
use Rattle.std.specs.declared.num.NonZeroUsize.{NonZeroUsize}
use Rattle.std.proofs.lemmas.Fmt.{decimal_digit, first_decimal}
use Rattle.clap.specs.Words.{Row, Text, first_of, is_simple, subcommand_of, takes}
use Rattle.clap.specs.Simple.{Shape, built_leaf, inherited}
use Rattle.clap.specs.Takes.{level_passes}
use Rattle.clap.specs.Walk.{nothing_held, rows_after}
use Rattle.clap.proofs.OnLiterals.{clap_on_literals}
use Rattle.escrow.specs.Codes.{IsArticle, IsBranch, is_branch_byte}
use Rattle.command_line.specs.Tasks.{AreWordsFor, Asks, AsksFor, AsksForService, IsFew, IsNoOption}
use Rattle.command_line.specs.Tasks.{IsRollOverToAsk, IsServiceToAsk, IsToAsk, IsWorkToAsk, Takes, TakesOnOne, article}
use Rattle.command_line.specs.Tasks.{bounds, command_of, deliveries, init, orders, roll, run, serve, sheet, stockdesk}
use Rattle.command_line.specs.Tasks.{task_words, upgrade, work_words}
use Rattle.command_line.specs.declared.work.AtOnce.{AtOnce}
use Rattle.command_line.specs.declared.work.Service.{Service}
use Rattle.command_line.specs.declared.work.Kind.{Kind}
use Rattle.command_line.specs.declared.work.Kind.TheVariants.{Bounds, Deliveries, Orders}
use Rattle.command_line.specs.declared.work.SheetOf.TheVariants.{Article, Branch}
use Rattle.command_line.specs.declared.tasks.Task.{Task}
use Rattle.command_line.specs.declared.tasks.Task.TheVariants.{InFile, InMemory, Init, Roll, Upgrade}
use Rattle.command_line.specs.declared.work.Work.TheVariants.{Requests, Script, Serve, ServeAtOnce, Sheet}
use Rattle.command_line.proofs.PlainWords.{Fit, Marked, are_rows, are_taken, level_over, rows_over, start, words_of}

pub is_ours : is_simple stockdesk ≡ true
is_ours = refl

-- ---- words that are no options

above_hyphen : (text : Text) → 45 < get_or text 0 0 → IsNoOption text
above_hyphen [] more = tt
above_hyphen (c ∷ cs) more = λ is. omega (arith, more, is)

number_word : (n : ℕ) → n < 2 ^ 64 → IsNoOption (decimal n)
number_word zero fits = subst IsNoOption (sym (decimal_digit 0 (omega arith))) (λ is. omega (arith, is))
number_word (suc n) fits = above_hyphen (decimal (suc n)) (omega (arith, first_decimal (suc n) (omega arith) fits))

branch_word : (branch : Text) → IsBranch branch → IsNoOption branch
branch_word [] is = tt
branch_word (c ∷ cs) is = λ hyphen. let each = subst (λ b. IsTrue (list_all is_branch_byte (b ∷ cs))) hyphen is.each in cc each

article_word : (article : Text) → IsArticle article → IsNoOption article
article_word [] is = tt
article_word (c ∷ cs) is = is.first

-- ---- commands

-- a command of ours, as it is built
abbrev leaf : Shape → Shape
leaf s = built_leaf (inherited stockdesk.top s)

-- what is asked for, of words that are taken
abbrev Gives : List Text → Task → Type 0
Gives words task = Asks (subcommand_of stockdesk words) task × (takes stockdesk words ≡ true)

-- words behind a command that is entered, that its walk passes, and of which it finds what the task asks for
gives : (name command : Text) (s : Shape) (marked : Marked) (task : Task)
    → subcommand_of stockdesk (name ∷ command ∷ words_of marked) ≡ Some (command, rows_after (leaf s).rules [] (words_of marked))
    → takes stockdesk (name ∷ command ∷ words_of marked) ≡ (level_passes (leaf s) [] nothing_held (words_of marked) false && true)
    → Fit (leaf s).rules start marked → level_over (leaf s) marked ≡ true → AsksFor command (rows_over (leaf s) marked) task
    → Gives (name ∷ command ∷ words_of marked) task
gives name command s marked task enters passes fit taken asks = (
  (
    command,
    rows_over (leaf s) marked,
    enters ∙ ap (λ (rows : List Row). Some (command, rows)) (are_rows (leaf s) marked fit),
    asks,
  ),
  passes ∙ ap (λ (b : Bool). b && true) (are_taken (leaf s) marked fit ∙ taken),
)

-- ---- each task

abbrev one : Text → Marked
one path = (true, path) ∷ []

abbrev two : Text → Text → Marked
two path word = (true, path) ∷ (true, word) ∷ []

abbrev many_together : Text → Text → NonZeroUsize → Marked
many_together path csv most =
    (true, path) ∷ (true, csv) ∷ (false, codes "--together") ∷ (true, decimal (non_zero_usize_get most)) ∷ []

abbrev last_keys : Text → Text → ℕ → Marked
last_keys old new keys = (true, old) ∷ (true, new) ∷ (false, codes "--keys") ∷ (true, decimal keys) ∷ []

gives_requests : (kind : Kind) (together : Option NonZeroUsize) (name : Text) (path csv : Bor Text)
    → IsNoOption path.now → IsNoOption csv.now → IsFew together
    → Gives (name ∷ work_words path.now (Requests kind csv together)) (InFile path (Requests kind csv together))
unfolding clap_on_literals
gives_requests Orders None name path csv p c few =
    gives name (codes "orders") orders.top (two path.now csv.now) (InFile path (Requests Orders csv None)) refl refl
    (refl, refl, p, (refl, refl, c, tt)) refl (refl, (refl, refl, refl))
gives_requests Deliveries None name path csv p c few =
    gives name (codes "deliveries") deliveries.top (two path.now csv.now) (InFile path (Requests Deliveries csv None))
    refl refl (refl, refl, p, (refl, refl, c, tt)) refl (refl, (refl, refl, refl))
gives_requests Bounds None name path csv p c few =
    gives name (codes "bounds") bounds.top (two path.now csv.now) (InFile path (Requests Bounds csv None)) refl refl
    (refl, refl, p, (refl, refl, c, tt)) refl (refl, (refl, refl, refl))
gives_requests Orders (Some most) name path csv p c (some, few) =
    let n : IsNoOption (decimal (non_zero_usize_get most)) = number_word (non_zero_usize_get most) (omega (arith, few)) in
    gives name (codes "orders") orders.top (many_together path.now csv.now most)
    (InFile path (Requests Orders csv (Some most))) refl refl
    (refl, refl, p, (refl, refl, c, (refl, refl, n, tt))) refl (refl, (refl, refl, (most, refl, refl, few)))
gives_requests Deliveries (Some most) name path csv p c (some, few) =
    let n : IsNoOption (decimal (non_zero_usize_get most)) = number_word (non_zero_usize_get most) (omega (arith, few)) in
    gives name (codes "deliveries") deliveries.top (many_together path.now csv.now most)
    (InFile path (Requests Deliveries csv (Some most))) refl refl
    (refl, refl, p, (refl, refl, c, (refl, refl, n, tt))) refl (refl, (refl, refl, (most, refl, refl, few)))
gives_requests Bounds (Some most) name path csv p c (some, few) =
    let n : IsNoOption (decimal (non_zero_usize_get most)) = number_word (non_zero_usize_get most) (omega (arith, few)) in
    gives name (codes "bounds") bounds.top (many_together path.now csv.now most)
    (InFile path (Requests Bounds csv (Some most))) refl refl
    (refl, refl, p, (refl, refl, c, (refl, refl, n, tt))) refl (refl, (refl, refl, (most, refl, refl, few)))

abbrev of_service : Text → Service → Marked
of_service path service =
    (true, path) ∷ (false, codes "--port") ∷ (true, decimal service.port) ∷ (false, codes "--connections")
    ∷ (true, decimal service.connections) ∷ []

-- the numbers of a service at once are no options
numbers : {P : Type 0} (service : Service) (together : NonZeroUsize) → IsServiceToAsk service → IsFew (Some together)
    → (IsNoOption (decimal service.port) → IsNoOption (decimal service.connections)
    → IsNoOption (decimal (non_zero_usize_get together)) → P) → P
numbers service together (is_port, some, many) (some_together, few_together) then =
    then (number_word service.port (omega (arith, is_port))) (number_word service.connections (omega (arith, many)))
    (number_word (non_zero_usize_get together) (omega (arith, few_together)))

-- what was found has the numbers of a service, written out
asked_for : (rows : List Row) (service : Service) → first_of (codes "port") rows ≡ Some (decimal service.port)
    → first_of (codes "connections") rows ≡ Some (decimal service.connections) → IsServiceToAsk service
    → AsksForService rows service
asked_for rows service port connections (is_port, some, many) = (
  decimal service.port,
  decimal service.connections,
  port,
  connections,
  record { port_is = refl; connections_are = refl; is_port = is_port; some = some; not_many = many },
)

gives_service : (name : Text) (path : Bor Text) (service : Service) → IsNoOption path.now → IsWorkToAsk (Serve service)
    → Gives (name ∷ work_words path.now (Serve service)) (InFile path (Serve service))
unfolding clap_on_literals
gives_service name path service p (is_port, some, many) =
    let port : IsNoOption (decimal service.port) = number_word service.port (omega (arith, is_port)) in
    let connections : IsNoOption (decimal service.connections) = number_word service.connections (omega (arith, many)) in
    gives name (codes "serve") serve.top (of_service path.now service) (InFile path (Serve service)) refl refl
    (refl, refl, p, (refl, refl, port, (refl, refl, connections, tt))) refl
    (refl, (refl, refl, refl, refl, asked_for (rows_over (leaf serve.top) (of_service path.now service)) service refl refl (is_port, some, many)))

abbrev clients_marked : Option NonZeroUsize → Marked
clients_marked None = []
clients_marked (Some most) = (false, codes "--clients") ∷ (true, decimal (non_zero_usize_get most)) ∷ []

abbrev places_marked : Option NonZeroUsize → Marked
places_marked None = []
places_marked (Some most) = (false, codes "--places") ∷ (true, decimal (non_zero_usize_get most)) ∷ []

abbrev of_service_at_once : Text → Service → AtOnce → Marked
of_service_at_once path service at_once =
    (true, path) ∷ (false, codes "--port") ∷ (true, decimal service.port) ∷ (false, codes "--connections")
    ∷ (true, decimal service.connections)
    ∷ (false, codes "--together") ∷ (true, decimal (non_zero_usize_get at_once.together))
    ∷ clients_marked at_once.clients ++ places_marked at_once.places

gives_service_at_once : (name : Text) (path : Bor Text) (service : Service) (together : NonZeroUsize)
    (clients places : Option NonZeroUsize) → let at_once : AtOnce =
    record { together = together; clients = clients; places = places } in IsNoOption path.now
    → IsWorkToAsk (ServeAtOnce service at_once)
    → Gives (name ∷ work_words path.now (ServeAtOnce service at_once)) (InFile path (ServeAtOnce service at_once))
unfolding clap_on_literals
gives_service_at_once name path service together None None p (ok, few, few_clients, few_places) =
    let at_once : AtOnce = record { together = together; clients = None; places = None } in
    gives name (codes "serve") serve.top (of_service_at_once path.now service at_once)
    (InFile path (ServeAtOnce service at_once)) refl refl (
      refl,
      refl,
      p,
      numbers service together ok few (λ port connections many.
          (refl, refl, port, (refl, refl, connections, (refl, refl, many, tt)))),
    ) refl (
      refl,
      (
        refl,
        (
          decimal (non_zero_usize_get together),
          refl,
          record {
            together_is = (together, refl, refl, few.1);
            clients_are = refl;
            places_are = refl;
          },
        ),
        asked_for (rows_over (leaf serve.top) (of_service_at_once path.now service at_once)) service refl refl ok,
      ),
    )
gives_service_at_once name path service together (Some most) None p (ok, few, few_clients, few_places) =
    let clients : IsNoOption (decimal (non_zero_usize_get most)) =
    number_word (non_zero_usize_get most) (omega (arith, few_clients.1)) in
    let at_once : AtOnce = record { together = together; clients = Some most; places = None } in
    gives name (codes "serve") serve.top (of_service_at_once path.now service at_once)
    (InFile path (ServeAtOnce service at_once)) refl refl (
      refl,
      refl,
      p,
      numbers service together ok few (λ port connections many.
          (refl, refl, port, (refl, refl, connections, (refl, refl, many, (refl, refl, clients, tt))))),
    ) refl (
      refl,
      (
        refl,
        (
          decimal (non_zero_usize_get together),
          refl,
          record {
            together_is = (together, refl, refl, few.1);
            clients_are = (most, refl, refl, few_clients.1);
            places_are = refl;
          },
        ),
        asked_for (rows_over (leaf serve.top) (of_service_at_once path.now service at_once)) service refl refl ok,
      ),
    )
gives_service_at_once name path service together None (Some last) p (ok, few, few_clients, few_places) =
    let places : IsNoOption (decimal (non_zero_usize_get last)) =
    number_word (non_zero_usize_get last) (omega (arith, few_places.1)) in
    let at_once : AtOnce = record { together = together; clients = None; places = Some last } in
    gives name (codes "serve") serve.top (of_service_at_once path.now service at_once)
    (InFile path (ServeAtOnce service at_once)) refl refl (
      refl,
      refl,
      p,
      numbers service together ok few (λ port connections many.
          (refl, refl, port, (refl, refl, connections, (refl, refl, many, (refl, refl, places, tt))))),
    ) refl (
      refl,
      (
        refl,
        (
          decimal (non_zero_usize_get together),
          refl,
          record {
            together_is = (together, refl, refl, few.1);
            clients_are = refl;
            places_are = (last, refl, refl, few_places.1);
          },
        ),
        asked_for (rows_over (leaf serve.top) (of_service_at_once path.now service at_once)) service refl refl ok,
      ),
    )
gives_service_at_once name path service together (Some most) (Some last) p (ok, few, few_clients, few_places) =
    let clients : IsNoOption (decimal (non_zero_usize_get most)) =
    number_word (non_zero_usize_get most) (omega (arith, few_clients.1)) in
    let places : IsNoOption (decimal (non_zero_usize_get last)) =
    number_word (non_zero_usize_get last) (omega (arith, few_places.1)) in
    let at_once : AtOnce = record { together = together; clients = Some most; places = Some last } in
    gives name (codes "serve") serve.top (of_service_at_once path.now service at_once)
    (InFile path (ServeAtOnce service at_once)) refl refl (
      refl,
      refl,
      p,
      numbers service together ok few (λ port connections many.
          (refl, refl, port, (refl, refl, connections, (refl, refl, many, (refl, refl, clients, (refl, refl, places, tt)))))),
    ) refl (
      refl,
      (
        refl,
        (
          decimal (non_zero_usize_get together),
          refl,
          record {
            together_is = (together, refl, refl, few.1);
            clients_are = (most, refl, refl, few_clients.1);
            places_are = (last, refl, refl, few_places.1);
          },
        ),
        asked_for (rows_over (leaf serve.top) (of_service_at_once path.now service at_once)) service refl refl ok,
      ),
    )

gives_roll_over : (name : Text) (old new : Bor Text) (keys : Option ℕ)
    → IsRollOverToAsk (record { old = old; new = new; keys = keys })
    → Gives (name ∷ task_words (Roll (record { old = old; new = new; keys = keys })))
    (Roll (record { old = old; new = new; keys = keys }))
unfolding clap_on_literals
gives_roll_over name old new None (o, n, few) =
    gives name (codes "roll") roll.top (two old.now new.now) (Roll (record { old = old; new = new; keys = None })) refl
    refl (refl, refl, o, (refl, refl, n, tt)) refl (refl, (refl, refl, refl))
gives_roll_over name old new (Some keys) (o, n, few) =
    let number : IsNoOption (decimal keys) = number_word keys (omega (arith, few)) in
    gives name (codes "roll") roll.top (last_keys old.now new.now keys)
    (Roll (record { old = old; new = new; keys = Some keys })) refl refl
    (refl, refl, o, (refl, refl, n, (refl, refl, number, tt))) refl (refl, (refl, refl, (keys, refl, refl, few)))

gives_task : (task : Task) (name : Text) → IsToAsk task → Gives (name ∷ task_words task) task
unfolding clap_on_literals
gives_task (Init path) name p =
    gives name (codes "init") init.top (one path.now) (Init path) refl refl (refl, refl, p, tt) refl (refl, refl)
gives_task (Upgrade path) name p =
    gives name (codes "upgrade") upgrade.top (one path.now) (Upgrade path) refl refl (refl, refl, p, tt) refl
    (refl, refl)
gives_task (Roll roll_over) name ok = gives_roll_over name roll_over.old roll_over.new roll_over.keys ok
gives_task InMemory name p = gives name (codes "run") run.top [] InMemory refl refl tt refl (refl, refl)
gives_task (InFile path Script) name (p, ok) =
    gives name (codes "run") run.top (one path.now) (InFile path Script) refl refl (refl, refl, p, tt) refl (refl, refl)
gives_task (InFile path (Requests kind csv together)) name (p, (c, few)) = gives_requests kind together name path csv p c few
gives_task (InFile path (Sheet (Branch branch))) name (p, form) =
    gives name (codes "sheet") sheet.top (two path.now branch) (InFile path (Sheet (Branch branch))) refl refl
    (refl, refl, p, (refl, refl, branch_word branch form, tt)) refl (refl, (refl, refl))
gives_task (InFile path (Sheet (Article code))) name (p, form) =
    gives name (codes "article") article.top (two path.now code) (InFile path (Sheet (Article code))) refl refl
    (refl, refl, p, (refl, refl, article_word code form, tt)) refl (refl, (refl, refl))
gives_task (InFile path (Serve service)) name (p, ok) = gives_service name path service p ok
gives_task (InFile path (ServeAtOnce service at_once)) name (p, ok) =
    gives_service_at_once name path service at_once.together at_once.clients at_once.places p ok

pub words_give : (task : Task) (words : List Text) → AreWordsFor task words → Gives words task
words_give task words (name, is, ok) = subst (λ (w : List Text). Gives w task) (sym is) (gives_task task name ok)

-- ---- what was found

-- a command of another name than `roll` gives a task on one desk
on_one : (name command : Text) (rows : List Row) (Taken : Type 0) → Takes name rows Taken → name ≡ command
    → bytes_eq command (codes "roll") ≡ false → TakesOnOne name rows Taken
on_one name command rows Taken takes is other =
    takes.of_one (λ roll. true≢false (subst (λ (word : Text). bytes_eq word (codes "roll") ≡ false) (sym is ∙ roll) other))

on_files : (name : Text) (kind : Kind) (rows : List Row) (Taken : Type 0) → Takes name rows Taken → name ≡ command_of kind
    → TakesOnOne name rows Taken
on_files name Orders rows Taken takes is = on_one name (codes "orders") rows Taken takes is refl
on_files name Deliveries rows Taken takes is = on_one name (codes "deliveries") rows Taken takes is refl
on_files name Bounds rows Taken takes is = on_one name (codes "bounds") rows Taken takes is refl

-- what is asked for, in range, is given
pub is_given : (name : Text) (rows : List Row) (task : Task) (Taken : Type 0) → Takes name rows Taken
    → AsksFor name rows task → IsToAsk task → Taken
is_given name rows (Init path) Taken takes (is, file) ok =
    ((on_one name (codes "init") rows Taken takes is refl).on_file path.now file).of_init is
is_given name rows (Upgrade path) Taken takes (is, file) ok =
    ((on_one name (codes "upgrade") rows Taken takes is refl).on_file path.now file).of_upgrade is
is_given name rows (Roll roll_over) Taken takes (is, asked) ok = takes.of_roll_over roll_over is asked
is_given name rows InMemory Taken takes (is, none) ok = (on_one name (codes "run") rows Taken takes is refl).in_memory is none
is_given name rows (InFile path Script) Taken takes (file, is) ok =
    ((on_one name (codes "run") rows Taken takes is refl).on_file path.now file).of_work.of_script is
is_given name rows (InFile path (Requests kind csv together)) Taken takes (file, (is, found, many)) ok =
    ((on_files name kind rows Taken takes is).on_file path.now file).of_work.of_requests kind csv.now together is found many
    ok.1.1
is_given name rows (InFile path (Sheet (Branch branch))) Taken takes (file, (is, found)) (p, form) =
    ((on_one name (codes "sheet") rows Taken takes is refl).on_file path.now file).of_work.of_branch branch is found form
is_given name rows (InFile path (Sheet (Article code))) Taken takes (file, (is, found)) (p, form) =
    ((on_one name (codes "article") rows Taken takes is refl).on_file path.now file).of_work.of_article code is found form
is_given name rows (InFile path (Serve service)) Taken takes (file, (is, alone, nobody, no_end, asked)) ok =
    (((on_one name (codes "serve") rows Taken takes is refl).on_file path.now file).of_work.of_service is).in_turn service
    alone nobody no_end asked
is_given name rows (InFile path (ServeAtOnce service at_once)) Taken takes
    (file, (is, (together, found, are), asked)) (p, (ok, few, few_clients, few_places)) =
    (((on_one name (codes "serve") rows Taken takes is refl).on_file path.now file).of_work.of_service is).at_once together
    service at_once found are few few_clients few_places asked

-- the one word `run` asks for a run in memory alone
abbrev found_rows : Option (Text × List Row) → List Row
found_rows None = []
found_rows (Some found) = found.1

abbrev found_name : Option (Text × List Row) → Text
found_name None = []
found_name (Some found) = found.0

pub only_in_memory : (task : Task) → Asks (Some (codes "run", [])) task → task ≡ InMemory
only_in_memory (Init path) (name, rows, found, (is, file)) =
    absurd (let bad : 3 ≡ 4 = ap length (ap found_name found ∙ is) in omega (arith, bad))
only_in_memory (Upgrade path) (name, rows, found, (is, file)) =
    absurd (let bad : 3 ≡ 7 = ap length (ap found_name found ∙ is) in omega (arith, bad))
only_in_memory (Roll roll_over) (name, rows, found, (is, asked)) =
    absurd (true≢false (sym (ap (λ (word : Text). bytes_eq word (codes "roll")) (ap found_name found ∙ is))))
only_in_memory InMemory asks = refl
only_in_memory (InFile path work) (name, rows, found, (file, is)) =
    let none : rows ≡ [] = ap found_rows (sym found) in
    let bad : None ≡ Some path.now = subst (λ (rs : List Row). first_of (codes "FILE") rs ≡ Some path.now) none file in
    absurd (cc bad)

pub run_found : (words : List Text) → AreWordsFor InMemory words → subcommand_of stockdesk words ≡ Some (codes "run", [])
unfolding clap_on_literals
run_found words (name, is, ok) = subst (λ (w : List Text). subcommand_of stockdesk w ≡ Some (codes "run", [])) (sym is) refl

pub is_in_memory : (found : Option Task) → IsSome found → IfSome found (Asks (Some (codes "run", []))) → found ≡ Some InMemory
is_in_memory None some asks = absurd (true≢false (sym some))
is_in_memory (Some task) some asks = ap (λ t. Some t) (only_in_memory task asks)
