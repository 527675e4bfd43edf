-- The rows of a turn's system, one call after another.
use Rattle.std.proofs.Common.{◌≡◌, ℕ, zero, suc, ◌+◌, ℤ, pos, List, [], ◌∷◌, ◌++◌, map, length, refl, ap, sym, ◌∙◌, arith}
use Rattle.std.specs.Borrow.{Bor}
use Rattle.std.specs.Prelude.{◌-ℤ◌, neg_ℤ}
use Rattle.std.specs.List.{AllByRecursion}
use Rattle.std.proofs.lemmas.List.{length-append, length-map}
use Rattle.exact128.specs.Sums.{entry}
use Rattle.cti_terms.specs.Tree.{Tree}
use Rattle.cti_terms.specs.declared.predicates.PredId.{PredId}
use Rattle.linear_rows.specs.Plain.{plain_row, plain_rows}
use Rattle.linear_rows.specs.Solving.{zeros}
use Rattle.call_components.specs.Numbers.{number_of}
use Rattle.termination_model.specs.mappings.OwnCalls.{OwnCall as Recalled, Position as Place, rows_before}
use Rattle.termination_model.specs.mappings.SupportSystem.{less_one, multiplier_entries, offset_entries, offset_share, position_entries, row_count, share}
use Rattle.termination_model.specs.lists.TurnSystem.{call_turn_rows, drop_entries, ones, sum_row, turn_row, turn_rows_from}
use Rattle.termination_model.proofs.Lists.{append_assoc}
use Rattle.level_systems.specs.Held.{spelled}
use Rattle.level_systems.specs.Recalled.{Recalls}
use Rattle.level_systems.specs.Turned.{all_rows, held_of, turned_numbers}
use Rattle.level_systems.specs.declared.own_call.OwnCall.{OwnCall}
use Rattle.level_systems.specs.declared.position.Position.{Position}
use Rattle.level_systems.proofs.Holding.{offsets_same, positions_same, rows_same}
use Rattle.level_systems.proofs.RowLengths.{length_zeros}

push_one : (n : ℕ) → ones n ++ pos 1 ∷ [] ≡ ones (suc n)
push_one zero = refl
push_one (suc n) = ap (λ s. pos 1 ∷ s) (push_one n)

pub ones_more : (n : ℕ) → ones n ++ pos 1 ∷ [] ≡ ones (n + 1)
ones_more n = let more : suc n ≡ n + 1 = omega arith in push_one n ∙ ap ones more

pub length_ones : (n : ℕ) → length (ones n) ≡ n
length_ones zero = refl
length_ones (suc n) = ap suc (length_ones n)

drops_long : (earlier later x : ℕ) → length (drop_entries earlier later x) ≡ earlier + (later + 1)
drops_long earlier later x = omega (arith, length-append (zeros earlier) (less_one x ∷ zeros later), length_zeros earlier, length_zeros later)

pub turned_length : (own : OwnCall) (positions : List Position) (members : List PredId) (earlier later before after x : ℕ)
    → length (turned_numbers own positions members earlier later before after x) ≡ length positions + (length members + ((earlier + (later + 1)) + (before + (length own.rows.list + after))))
turned_length own positions members earlier later before after x =
    let a = map (λ p. share own.caller.0 (plain_rows own.caller_sizes.list) x (spelled p) -ℤ share own.callee.0 (plain_rows own.callee_sizes.list) x (spelled p)) positions in
    let b = map (λ m. offset_share own.caller.0 x m.0 -ℤ offset_share own.callee.0 x m.0) members in
    let d = drop_entries earlier later x in
    let e = map (λ r. neg_ℤ (entry (plain_row r) x)) own.rows.list in
    let la : length a ≡ length positions = length-map positions (λ p. share own.caller.0 (plain_rows own.caller_sizes.list) x (spelled p) -ℤ share own.callee.0 (plain_rows own.callee_sizes.list) x (spelled p)) in
    let lb : length b ≡ length members = length-map members (λ m. offset_share own.caller.0 x m.0 -ℤ offset_share own.callee.0 x m.0) in
    let le : length e ≡ length own.rows.list = length-map own.rows.list (λ r. neg_ℤ (entry (plain_row r) x)) in
    omega (
      arith,
      la,
      lb,
      le,
      drops_long earlier later x,
      length_zeros before,
      length_zeros after,
      length-append ((((a ++ b) ++ d) ++ zeros before) ++ e) (zeros after),
      length-append (((a ++ b) ++ d) ++ zeros before) e,
      length-append ((a ++ b) ++ d) (zeros before),
      length-append (a ++ b) d,
      length-append a b,
    )

pub sum_length : (positions members calls count : ℕ) → length (((zeros positions ++ zeros members) ++ ones calls) ++ zeros count) ≡ positions + (members + (calls + count))
sum_length positions members calls count =
    omega (
      arith,
      length-append ((zeros positions ++ zeros members) ++ ones calls) (zeros count),
      length-append (zeros positions ++ zeros members) (ones calls),
      length-append (zeros positions) (zeros members),
      length_zeros positions,
      length_zeros members,
      length_ones calls,
      length_zeros count,
    )

to_right : {X : Type 0} (a b c d : List X) → ((a ++ b) ++ c) ++ d ≡ a ++ (b ++ (c ++ d))
to_right a b c d = append_assoc (a ++ b) c d ∙ append_assoc a b (c ++ d)

all_to_right : {X : Type 0} (a b c d e f : List X) → ((((a ++ b) ++ c) ++ d) ++ e) ++ f ≡ a ++ (b ++ (c ++ (d ++ (e ++ f))))
all_to_right a b c d e f = append_assoc (((a ++ b) ++ c) ++ d) e f ∙ append_assoc ((a ++ b) ++ c) d (e ++ f) ∙ to_right a b c (d ++ (e ++ f))

-- The row that the code makes is the row of the call.
pub turned_row : (expression : ℕ → Tree → List ℤ) (o : Recalled) (own : OwnCall) → Recalls expression o own → (positions : List Position) (members : List PredId) (earlier later before after x : ℕ)
    → (pos 0 ∷ turned_numbers own positions members earlier later before after x) ≡ turn_row expression (map spelled positions) (map number_of members) earlier later before after o x
turned_row expression o own h positions members earlier later before after x =
    ap (λ s. pos 0 ∷ s) ((λ i. ((((positions_same expression o own h x positions i ++ offsets_same expression o own h x members i) ++ drop_entries earlier later x) ++ zeros before) ++ rows_same expression o own h x i) ++ zeros after)
    ∙ all_to_right (position_entries expression (map spelled positions) (map number_of members) o x) (offset_entries expression (map spelled positions) (map number_of members) o x) (drop_entries earlier later x) (zeros before)
    (multiplier_entries expression (map spelled positions) (map number_of members) o x) (zeros after))

-- what is said of the calls that are referred to
pub said_of : (P : OwnCall → Type 0) (calls : List (Bor OwnCall)) → AllByRecursion P (held_of calls) → AllByRecursion (λ c. P c.now) calls
said_of P [] all = tt
said_of P (c ∷ calls) all = (all.0, said_of P calls all.1)

pub said_back : (P : OwnCall → Type 0) (calls : List (Bor OwnCall)) → AllByRecursion (λ c. P c.now) calls → AllByRecursion P (held_of calls)
said_back P [] all = tt
said_back P (c ∷ calls) all = (all.0, said_back P calls all.1)

module _ (expression : ℕ → Tree → List ℤ) (re : OwnCall → Recalled) (ps : List Place) (ms : List ℕ) where
  abbrev Same : OwnCall → Type 0
  Same own = Recalls expression (re own) own

  rows_count : (own : OwnCall) → Same own → length own.rows.list ≡ length (rows_before expression (re own))
  rows_count own r = sym (length-map own.rows.list plain_row) ∙ ap length r.rows

  pub rows_are : (owns : List OwnCall) → AllByRecursion Same owns → row_count expression ps ms (map re owns) ≡ all_rows owns
  rows_are [] all = refl
  rows_are (own ∷ owns) all = λ i. sym (rows_count own all.0) i + rows_are owns all.1 i

  pub one_turn : (own : OwnCall) (rest : List OwnCall) (earlier later before after n : ℕ) (old new : List (List ℤ)) → Same own → AllByRecursion Same rest → later ≡ length rest → after ≡ all_rows rest
      → n ≡ length own.rows.list → new ≡ old ++ call_turn_rows expression ps ms earlier later before after (re own)
      → new ++ turn_rows_from expression ps ms (earlier + 1) (before + n) (map re rest) ≡ old ++ turn_rows_from expression ps ms earlier before (map re (own ∷ rest))
  one_turn own rest earlier later before after n old new same all el ea en e =
      let many : later ≡ length (map re rest) = el ∙ sym (length-map rest re) in
      let count : after ≡ row_count expression ps ms (map re rest) = ea ∙ sym (rows_are rest all) in
      let long : n ≡ length (rows_before expression (re own)) = en ∙ rows_count own same in
      let next : earlier + 1 ≡ suc earlier = omega arith in
      ap (λ s. s ++ turn_rows_from expression ps ms (earlier + 1) (before + n) (map re rest)) e
      ∙ append_assoc old (call_turn_rows expression ps ms earlier later before after (re own)) (turn_rows_from expression ps ms (earlier + 1) (before + n) (map re rest))
      ∙ (λ i. old ++ (call_turn_rows expression ps ms earlier (many i) before (count i) (re own) ++ turn_rows_from expression ps ms (next i) (before + long i) (map re rest)))

pub sum_same : (expression : ℕ → Tree → List ℤ) (positions : List Position) (members : List PredId) (os : List Recalled) (calls count : ℕ) → calls ≡ length os
    → count ≡ row_count expression (map spelled positions) (map number_of members) os
    → (neg_ℤ (pos 1) ∷ (((zeros (length positions) ++ zeros (length members)) ++ ones calls) ++ zeros count)) ≡ sum_row expression (map spelled positions) (map number_of members) os
sum_same expression positions members os calls count ec en =
    ap (λ s. neg_ℤ (pos 1) ∷ s) (to_right (zeros (length positions)) (zeros (length members)) (ones calls) (zeros count)
    ∙ (λ i. zeros (sym (length-map positions spelled) i) ++ (zeros (sym (length-map members number_of) i) ++ (ones (ec i) ++ zeros (en i)))))
