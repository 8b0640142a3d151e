-- What an order file has said so far, by one row more.
use Rattle.std.proofs.Common.{◌≡◌, ◌≢◌, ◌⊎◌, ◌∙◌, List, [], ◌∷◌, ◌++◌, Option, None, Some, arith, decimal, inl, inr, subst, sym}
use Rattle.std.proofs.lemmas.Fmt.{decimal_injective}
use Rattle.words.specs.declared.command.Request.{Request}
use Rattle.files.specs.Files.{Breaks, Record}
use Rattle.files.specs.Orders.{SayOrders, order_row}
use Rattle.files.specs.Rows.{Continues, IsRow, TookRows, order_of_row, request_of, requests_of, with_line}
use Rattle.files.specs.declared.orders.OpenOrder.{OpenOrder}
use Rattle.files.specs.declared.orders.Row.{Row}
use Rattle.files.proofs.OrderGroups.{begins, first_row, goes_on, last_is_row, next_row}

-- all that was taken in
pub took_says : (done : List Request) (last : Option OpenOrder) (rows : List Record) → TookRows done last rows
    → SayOrders rows (requests_of done last)
took_says done None rows (none, no_rows) = subst (SayOrders rows) (sym none) no_rows
took_says done (Some o) rows h = h

-- the first row
pub took_first : (done : List Request) (last : Option OpenOrder) (order : OpenOrder) (row : Row) (fields : Record)
    → last ≡ None → order ≡ order_of_row row → IsRow fields row
    → (rows : List Record) → TookRows done last rows → SayOrders (rows ++ fields ∷ []) (done ++ request_of order ∷ [])
took_first done None order row fields e made h rows (none, no_rows) = rw (none, no_rows, made) (first_row fields row h)
took_first done (Some o) order row fields e made h rows took = absurd (cc)

-- one line more of the last order
pub took_line : (done more : List Request) (last longer : Option OpenOrder) (o : OpenOrder) (row : Row)
    (fields : Record) → last ≡ Some o → row.key ≡ o.key → Continues o row → more ≡ done
    → longer ≡ Some (with_line o row.line) → IsRow fields row
    → (rows : List Record) → TookRows done last rows → TookRows more longer (rows ++ fields ∷ [])
took_line done more last longer o row fields there key (number, until, fits) same grown h rows took =
    let said : SayOrders rows (done ++ request_of o ∷ []) = subst (λ l. TookRows done l rows) there took in
    let next : TookRows done (Some (with_line o row.line)) (rows ++ fields ∷ []) =
    goes_on rows fields row done o said h key number until (omega arith) in
    subst (λ d. TookRows d longer (rows ++ fields ∷ [])) (sym same)
    (subst (λ l. TookRows done l (rows ++ fields ∷ [])) (sym grown) next)

-- a row under another key
pub took_next : (done pushed : List Request) (last : Option OpenOrder) (o order : OpenOrder) (request : Request)
    (row : Row) (fields : Record) → last ≡ Some o → row.key ≢ o.key → request ≡ request_of o
    → pushed ≡ done ++ request ∷ []
    → order ≡ order_of_row row → IsRow fields row → (rows : List Record) → TookRows done last rows
    → SayOrders (rows ++ fields ∷ []) (pushed ++ request_of order ∷ [])
took_next done pushed last o order request row fields there apart is_request pushes made h rows took =
    let said : SayOrders rows (done ++ request_of o ∷ []) = subst (λ l. TookRows done l rows) there took in
    rw (pushes, is_request, made) (begins rows fields row done o said h apart)

-- what two rows of one record say
same_row : (fields : Record) (r s : Row) → IsRow fields r → IsRow fields s
    → (r.key ≡ s.key) × (r.number ≡ s.number) × (r.until ≡ s.until)
same_row fields r s h k =
    let e : order_row r.key r.number r.until r.line ≡ order_row s.key s.number s.until s.line = sym h.fields_are ∙ k.fields_are in
    let key : r.key ≡ s.key = cc in
    let number : decimal r.number ≡ decimal s.number = cc in
    let until : decimal r.until ≡ decimal s.until = cc in
    let a = h.number_range in let b = k.number_range in let c = h.until_range in let d = k.until_range in (
      key,
      decimal_injective r.number s.number (omega arith) (omega arith) number,
      decimal_injective r.until s.until (omega arith) (omega arith) until,
    )

-- a row that is no line more of the last order, whose key it has
pub no_line_more : (done : List Request) (last : Option OpenOrder) (o : OpenOrder) (row : Row) (fields : Record)
    → last ≡ Some o → row.key ≡ o.key → (Continues o row → ⊥) → IsRow fields row
    → (rows : List Record) → TookRows done last rows → Breaks SayOrders rows fields
no_line_more done last o row fields there key fits h rows took =
    let said : SayOrders rows (done ++ request_of o ∷ []) = subst (λ l. TookRows done l rows) there took in
    record {
      requests = done ++ request_of o ∷ [];
      so_far = said;
      fault = λ more whole. by (next_row rows fields done o more said whole);
    }
  where
    by : ((other : Row) × IsRow fields other × ((other.key ≢ o.key) ⊎ ((other.key ≡ o.key) × Continues o other))) → ⊥
    by (other, is_row, inl apart) = apart ((same_row fields other row is_row h).0 ∙ key)
    by (other, is_row, inr (same, (number, until, room))) =
        let (k, n, u) = same_row fields other row is_row h in
        fits (sym n ∙ number, sym u ∙ until, room)

-- a record that is no row
pub no_row : (done : List Request) (last : Option OpenOrder) (fields : Record) → ((said : Row) → IsRow fields said → ⊥)
    → (rows : List Record) → TookRows done last rows → Breaks SayOrders rows fields
no_row done last fields none rows took = record {
  requests = requests_of done last;
  so_far = took_says done last rows took;
  fault = λ more whole. let (row, is_row) = last_is_row rows fields more whole in none row is_row;
}
