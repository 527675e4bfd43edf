-- How long the rows of a call are.
use Rattle.std.proofs.Common.{◌≡◌, ℕ, zero, suc, ◌+◌, List, [], ◌∷◌, ◌++◌, map, length, refl, ap, sym, ◌∙◌, arith}
use Rattle.std.specs.Prelude.{◌-ℤ◌, neg_ℤ}
use Rattle.std.proofs.lemmas.List.{length-append, length-map}
use Rattle.exact128.specs.Sums.{entry}
use Rattle.cti_terms.specs.declared.predicates.PredId.{PredId}
use Rattle.linear_rows.specs.Plain.{plain_row, plain_rows}
use Rattle.linear_rows.specs.Solving.{zeros}
use Rattle.linear_rows.specs.Step.{columns}
use Rattle.termination_model.specs.mappings.SupportSystem.{offset_share, share}
use Rattle.level_systems.specs.Held.{held_numbers, spelled}
use Rattle.level_systems.specs.declared.own_call.OwnCall.{OwnCall}
use Rattle.level_systems.specs.declared.position.Position.{Position}

pub length_zeros : (n : ℕ) → length (zeros n) ≡ n
length_zeros zero = refl
length_zeros (suc n) = ap suc (length_zeros n)

pub held_length : (own : OwnCall) (positions : List Position) (members : List PredId) (before after x : ℕ)
    → length (held_numbers own positions members before after x) ≡ length positions + (length members + (before + (length own.rows.list + after)))
held_length own positions members before after x =
    let a = map (λ p. share own.caller.0 (plain_rows own.caller_sizes.list) x (spelled p) -ℤ share own.callee.0 (plain_rows own.callee_sizes.list) x (spelled p)) positions in
    let b = map (λ m. offset_share own.caller.0 x m.0 -ℤ offset_share own.callee.0 x m.0) members in
    let d = map (λ r. neg_ℤ (entry (plain_row r) x)) own.rows.list in
    let la : length a ≡ length positions = length-map positions (λ p. share own.caller.0 (plain_rows own.caller_sizes.list) x (spelled p) -ℤ share own.callee.0 (plain_rows own.callee_sizes.list) x (spelled p)) in
    let lb : length b ≡ length members = length-map members (λ m. offset_share own.caller.0 x m.0 -ℤ offset_share own.callee.0 x m.0) in
    let ld : length d ≡ length own.rows.list = length-map own.rows.list (λ r. neg_ℤ (entry (plain_row r) x)) in
    omega (arith, la, lb, ld, length_zeros before, length_zeros after, length-append (((a ++ b) ++ zeros before) ++ d) (zeros after), length-append ((a ++ b) ++ zeros before) d, length-append (a ++ b) (zeros before), length-append a b)

-- one more column
pub columns_on : (k n : ℕ) → columns k (n + 1) ≡ columns k n ++ (k + n) ∷ []
columns_on k zero = let e : k + 0 ≡ k = omega arith in ap (λ m. m ∷ []) (sym e)
columns_on k (suc n) =
    let more : suc n + 1 ≡ suc (n + 1) = omega arith in
    let next : suc k + n ≡ k + suc n = omega arith in
    ap (columns k) more ∙ ap (λ s. k ∷ s) (columns_on (suc k) n ∙ ap (λ m. columns (suc k) n ++ m ∷ []) next)

pub columns_more : (n : ℕ) → columns 0 (n + 1) ≡ columns 0 n ++ n ∷ []
columns_more n = let e : 0 + n ≡ n = omega arith in columns_on 0 n ∙ ap (λ m. columns 0 n ++ m ∷ []) e
