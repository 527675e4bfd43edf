-- The numbers of mappings that are held.
use Rattle.std.proofs.Common.{◌≡◌, ◌+◌, ◌<◌, ◌≤◌, nat_lt, ℕ, zero, suc, ℤ, pos, Bool, true, false, List, map, refl, ap, ◌∙◌, arith}
use Rattle.exact128.specs.Sums.{entry}
use Rattle.linear_rows.specs.Members.{In}
use Rattle.linear_rows.specs.Step.{columns}
use Rattle.transitions.specs.StuckSets.{Feature, number_of}
use Rattle.transitions.specs.Turns.{mapping_of, number_at}
use Rattle.transitions.proofs.Levels.{no_number}
use Rattle.number_turns.specs.Recalled.{spelled}
use Rattle.number_lists.specs.Coursing.{IsMappingOver, IsOver}
use Rattle.number_lists.specs.Lists.{recalled_mapping}
use Rattle.number_lists.specs.declared.mapping.Mapping.{Mapping as HeldMapping}

pub column_entry : (g : ℕ → ℤ) (k w i : ℕ) → i < w → entry (map g (columns k w)) i ≡ g (k + i)
column_entry g k zero i l = absurd (omega arith)
column_entry g k (suc w) zero l = ap g (omega arith)
column_entry g k (suc w) (suc i) l = column_entry g (suc k) w i (omega arith) ∙ ap g (omega arith)

column_past : (g : ℕ → ℤ) (k w i : ℕ) → w ≤ i → entry (map g (columns k w)) i ≡ pos 0
column_past g k zero i l = refl
column_past g k (suc w) zero l = absurd (omega (arith, l))
column_past g k (suc w) (suc i) l = column_past g (suc k) w i (omega (arith, l))

-- a number of a column that the member has, or of an offset
pub number_is : (width : ℕ → ℕ) (fs : List Feature) (zs : List ℤ) (f : Feature) → f.1 ≤ width f.0 → number_of (mapping_of width fs zs) f ≡ number_at fs zs f
number_is width fs zs (q, zero) l = refl
number_is width fs zs (q, suc i) l =
    let same : 0 + i ≡ i = omega arith in
    column_entry (λ j. number_at fs zs (q, suc j)) 0 (width q) i (omega (arith, l)) ∙ ap (λ j. number_at fs zs (q, suc j)) same

number_past : (width : ℕ → ℕ) (fs : List Feature) (zs : List ℤ) (f : Feature) → width f.0 < f.1 → number_of (mapping_of width fs zs) f ≡ pos 0
number_past width fs zs (q, zero) l = absurd (omega (arith, l))
number_past width fs zs (q, suc i) l = column_past (λ j. number_at fs zs (q, suc j)) 0 (width q) i (omega (arith, l))

pub number_none : (width : ℕ → ℕ) (fs : List Feature) (zs : List ℤ) (f : Feature) → (In f fs → ⊥) → number_of (mapping_of width fs zs) f ≡ pos 0
number_none width fs zs f out = go (nat_lt (width f.0) f.1) refl
  where
    go : (b : Bool) → nat_lt (width f.0) f.1 ≡ b → number_of (mapping_of width fs zs) f ≡ pos 0
    go true e = number_past width fs zs f (grind (arith, e))
    go false e = number_is width fs zs f (grind (arith, e)) ∙ no_number fs zs f out

pub mapping_over : (width : ℕ → ℕ) (cs : List Feature) (m : HeldMapping) → IsMappingOver cs m → IsOver cs (recalled_mapping width m)
mapping_over width cs m is = λ f out. number_none width (map spelled m.features) m.numbers f (λ i. out (is.among f i))
