-- The definitions at work: a certificate for append/3, and one for p/0, which has no clause.
use Rattle.std.proofs.Common.{◌≡◌, ◌≢◌, ℕ, ℤ, pos, negsuc, ◌⊎◌, inl, inr, true, false, List, [], ◌∷◌, ◌++◌, length, take, Option, Some, None, refl, ap, ◌∙◌, subst, arith}
use Rattle.std.proofs.lemmas.Int.{ints}
use Rattle.std.specs.Prelude.{codes}
use Rattle.bool_diagrams.specs.declared.cube.Cell.TheVariants as side
use Rattle.call_components.specs.Partition.{Partition}
use Rattle.certificate.specs.declared.cell.CertCell.TheVariants as cell
use Rattle.certificate.specs.declared.norm.CertNorm.{CertNorm}
use Rattle.certificate.specs.declared.norm.CertNorm.TheVariants as norm
use Rattle.certificate.specs.declared.pred_text.PredText.{PredText}
use Rattle.certificate.specs.declared.fact.Fact.{Fact}
use Rattle.certificate.specs.declared.fact.Fact.TheVariants as fact
use Rattle.cti_terms.specs.Arithmetic.{no_arithmetic}
use Rattle.cti_terms.specs.Listing.{Listing, numbered}
use Rattle.linear_rows.specs.declared.multipliers.Multipliers.{Multipliers}
use Rattle.linear_rows.specs.declared.row.Row.{Row}
use Rattle.termination_model.specs.examples.Append.{append, append_cons}
use Rattle.number_tests.specs.declared.level_part.LevelPart.{LevelPart}
use Rattle.number_tests.specs.declared.pair_point.PairPoint.{PairPoint}
use Rattle.fact_reading.specs.declared.stop.StructureReason.{StructureReason}
use Rattle.fact_reading.specs.declared.stop.StructureReason.TheVariants as reason
use Rattle.cert_structure.specs.declared.parts.Parts.{Parts}
use Rattle.fact_reading.specs.Numbered.{lines_from}
use Rattle.cert_structure.specs.Order.{pred_text, head_facts, mode_facts, listed, refutation_facts, is_note}
use Rattle.cert_structure.specs.Shape.{rows_of_atoms, mappings_of, proofs_of_call, is_pair, HaveShape}
use Rattle.cert_structure.specs.Structure.{IsStructured}
use Rattle.cert_structure.specs.StructureFault.{HaveOnePlace, IsBeginning, whole, short, IsStructureFault, missing, extra, content}
use Rattle.cert_structure.specs.StructureFault as place

-- one predicate, which calls itself
abbrev one_component : Partition
one_component = record { of = 0 ∷ []; members = (0 ∷ []) ∷ []; recursive = true ∷ [] }

abbrev app : PredText
app = record { name = codes "app"; arity = 3 }

abbrev names : List (List ℕ)
names = codes "app" ∷ codes "[]" ∷ codes "." ∷ []

abbrev row : ℤ → ℤ → ℤ → ℤ → Row
row b x y z = record { constant = b; coeffs = x ∷ y ∷ z ∷ [] }

abbrev by_one : List ℤ → Multipliers
by_one list = record { scale = pos 1; list = list }

abbrev level : ℤ → ℤ → ℤ → LevelPart
level x y z = record { coeffs = x ∷ y ∷ z ∷ []; offset = pos 0 }

abbrev parts : Parts
parts = record {
  norm = None;
  modes = ((1 ∷ []) ∷ (3 ∷ []) ∷ []) ∷ [];
  rows = record { width = 3; list = row (pos 0) (pos 1) (pos 1) (negsuc 0) ∷ row (pos 0) (negsuc 0) (negsuc 0) (pos 1) ∷ [] } ∷ [];
  row_proofs = (by_one [] ∷ by_one [] ∷ []) ∷ (by_one (pos 1 ∷ pos 0 ∷ []) ∷ by_one (pos 0 ∷ pos 1 ∷ []) ∷ []) ∷ [];
  grounds = ((side.Zero ∷ side.Any ∷ side.Zero ∷ []) ∷ (side.One ∷ side.Zero ∷ side.Zero ∷ []) ∷ (side.One ∷ side.One ∷ side.One ∷ []) ∷ []) ∷ [];
  levels = (level (pos 1) (pos 0) (pos 0) ∷ level (pos 0) (pos 0) (pos 1) ∷ []) ∷ [];
  falls = [] ∷ ((by_one [] ∷ by_one [] ∷ []) ∷ []) ∷ [];
  preconditions = (((side.One ∷ side.Any ∷ side.Any ∷ []) ∷ []) ∷ ((side.Any ∷ side.Any ∷ side.One ∷ []) ∷ []) ∷ []) ∷ [];
  refutations = None ∷ [];
}

certificate_of_append : listed append names parts []
    ≡ fact.Cti (pos 1)
    ∷ fact.Terminates app ((1 ∷ []) ∷ (3 ∷ []) ∷ [])
    ∷ fact.Size app 1 (pos 0 ∷ pos 1 ∷ pos 1 ∷ negsuc 0 ∷ [])
    ∷ fact.Size app 2 (pos 0 ∷ negsuc 0 ∷ negsuc 0 ∷ pos 1 ∷ [])
    ∷ fact.By 1 1 (pos 1) []
    ∷ fact.By 1 2 (pos 1) []
    ∷ fact.By 2 1 (pos 1) (pos 1 ∷ pos 0 ∷ [])
    ∷ fact.By 2 2 (pos 1) (pos 0 ∷ pos 1 ∷ [])
    ∷ fact.Grounds app 1 (cell.Zero ∷ cell.Any ∷ cell.Zero ∷ [])
    ∷ fact.Grounds app 2 (cell.One ∷ cell.Zero ∷ cell.Zero ∷ [])
    ∷ fact.Grounds app 3 (cell.One ∷ cell.One ∷ cell.One ∷ [])
    ∷ fact.Measure app 1 (pos 1 ∷ pos 0 ∷ pos 0 ∷ []) (pos 0)
    ∷ fact.Measure app 2 (pos 0 ∷ pos 0 ∷ pos 1 ∷ []) (pos 0)
    ∷ fact.Falls 2 1 1 (pos 1) []
    ∷ fact.Falls 2 1 2 (pos 1) []
    ∷ fact.Pre app 1 1 (cell.One ∷ cell.Any ∷ cell.Any ∷ [])
    ∷ fact.Pre app 2 1 (cell.Any ∷ cell.Any ∷ cell.One ∷ [])
    ∷ []
certificate_of_append = refl

-- in list size, version 2 names the norm
by_list_size : take 3 (listed append names (record parts { norm = Some norm.List }) [])
    ≡ fact.Cti (pos 2) ∷ fact.Norm norm.List ∷ fact.Terminates app ((1 ∷ []) ∷ (3 ∷ []) ∷ []) ∷ []
by_list_size = refl

-- two size rows for the call, and none before it; two mappings
rows_of_the_body : rows_of_atoms parts.rows append_cons.body ≡ 2
rows_of_the_body = refl

two_mappings : mappings_of one_component parts.levels 0 ≡ 2
two_mappings = refl

two_proofs : proofs_of_call one_component parts.levels 0 (numbered append_cons.body 1) ≡ 2
two_proofs = refl

-- the call of the second clause is a pair, and the first clause has no call
a_pair : is_pair append one_component 0 2 1 ≡ true
a_pair = refl

no_pair : is_pair append one_component 0 1 1 ≡ false
no_pair = refl

-- a second point follows a point at infinity
infinite : PairPoint
infinite = record { clause = 2; call = 1; point = record { t = pos 0; w = pos 1 ∷ [] }; at = Some (record { t = pos 1; w = pos 0 ∷ [] }) }

two_points : refutation_facts app (Some (record { points = infinite ∷ [] }))
    ≡ fact.Refuted app 1 ∷ fact.Point 2 1 (pos 0) (pos 1 ∷ []) ∷ fact.At 2 1 (pos 1) (pos 0 ∷ []) ∷ []
unfolding infinite
two_points = refl

a_note : is_note (fact.WeakStep 7) ≡ true
a_note = refl

-- p/0 without clauses has one mapping, since it does not call itself
abbrev alone : Listing
alone = record { preds = record { name = record { 0 = 0 }; arity = 0 } ∷ []; clauses = []; arithmetic = no_arithmetic }

abbrev calls_nothing : Partition
calls_nothing = record { of = 0 ∷ []; members = (0 ∷ []) ∷ []; recursive = false ∷ [] }

abbrev p : PredText
p = record { name = codes "p"; arity = 0 }

abbrev names_of_p : List (List ℕ)
names_of_p = codes "p" ∷ []

-- its parts, with the norm that is named
abbrev parts_of_p : Option CertNorm → Parts
parts_of_p named = record {
  norm = named;
  modes = ([] ∷ []) ∷ [];
  rows = record { width = 0; list = [] } ∷ [];
  row_proofs = [];
  grounds = [] ∷ [];
  levels = (record { coeffs = []; offset = pos 0 } ∷ []) ∷ [];
  falls = [];
  preconditions = (([] ∷ []) ∷ []) ∷ [];
  refutations = None ∷ [];
}

shape_of_p : (named : Option CertNorm) → HaveShape alone calls_nothing (parts_of_p named)
shape_of_p named = record {
  modes = record { count = refl; each = (((tt, tt), tt), tt) };
  rows = record { count = refl; each = ((refl, tt), tt) };
  row_proofs = record { count = refl; each = tt };
  grounds = record { count = refl; each = (tt, tt) };
  levels = record { count = refl; each = ((refl, ((refl, tt, (omega (arith, ints), omega (arith, ints))), tt)), tt) };
  falls = record { count = refl; each = tt };
  preconditions = record { count = refl; each = (record { count = refl; each = ((refl, tt), tt) }, tt) };
  refutations = record { count = refl; each = (tt, tt) };
}

-- its facts after the head
abbrev facts_of_p : List Fact
facts_of_p = fact.Terminates p ([] ∷ []) ∷ fact.Measure p 1 [] (pos 0) ∷ fact.Pre p 1 1 [] ∷ []

structure_of_p : IsStructured alone names_of_p calls_nothing (parts_of_p None) (fact.Cti (pos 1) ∷ facts_of_p ++ fact.Large p 13 ∷ [])
structure_of_p = record { notes = fact.Large p 13 ∷ []; are_notes = (refl, tt); shape = shape_of_p None; is = refl }

-- version 2 has a norm, which may be term size too
structure_by : (named : CertNorm) → IsStructured alone names_of_p calls_nothing (parts_of_p (Some named)) (fact.Cti (pos 2) ∷ fact.Norm named ∷ facts_of_p)
structure_by named = record { notes = []; are_notes = tt; shape = shape_of_p (Some named); is = refl }

-- without its mapping there is no such shape
no_mapping : HaveShape alone calls_nothing (record (parts_of_p None) { levels = [] ∷ [] }) → ⊥
no_mapping h = let one : 0 ≡ 1 = h.levels.each.0.0 in absurd (omega (arith, one))

abbrev Begins : List Fact → Type 0
Begins facts = IsBeginning alone names_of_p calls_nothing facts

abbrev HasFault : List Fact → ℕ → StructureReason → Type 0
HasFault facts line why = IsStructureFault alone names_of_p calls_nothing facts line why

begins : (named : Option CertNorm) (facts rest : List Fact) → facts ++ rest ≡ head_facts named ++ facts_of_p → Begins facts
begins named facts rest is = whole (parts_of_p named) [] rest (shape_of_p named) tt is

-- after the head come the modes of the predicate
record HasHead (facts : List Fact) : Type 0 where
  named : Option CertNorm
  modes : List (List ℕ)
  after : List Fact
  rest : List Fact
  is : facts ++ rest ≡ head_facts named ++ fact.Terminates p modes ∷ after

one_mode : (modes : List (List (List ℕ))) (t : List Fact) → length modes ≡ 1
    → (ms : List (List ℕ)) × (after : List Fact) × (mode_facts alone names_of_p modes ++ t ≡ fact.Terminates p ms ∷ after)
one_mode [] t count = absurd (omega (arith, count))
one_mode (ms ∷ modes) t count = (ms, lines_from 1 (λ a ms. fact.Terminates (pred_text alone names_of_p a) ms) modes ++ t, refl)

has_head : (facts : List Fact) → Begins facts → HasHead facts
has_head facts (whole parts notes rest right are is) =
    let (ms, after, same) = one_mode parts.modes _ right.modes.count in
    record { named = parts.norm; modes = ms; after = after; rest = rest; is = is ∙ ap (λ z. head_facts parts.norm ++ z) same }
has_head facts (short parts before later r count rest right refuted enough is) =
    let (ms, after, same) = one_mode parts.modes _ right.modes.count in
    record { named = parts.norm; modes = ms; after = after; rest = rest; is = is ∙ ap (λ z. head_facts parts.norm ++ z) same }

-- where there are no facts, one is missing in line 1
nothing : HasFault [] 1 reason.Missing
nothing = missing (begins None [] (fact.Cti (pos 1) ∷ facts_of_p) refl) (λ parts is. go parts.norm _ is.is)
  where
    go : (named : Option CertNorm) (t : List Fact) → [] ≡ head_facts named ++ t → ⊥
    go None _ e = cc e
    go (Some named) _ e = cc e

one_or_two : (v : ℤ) (facts : List Fact) → Begins (fact.Cti v ∷ facts) → (v ≡ pos 1) ⊎ (v ≡ pos 2)
one_or_two v facts begun = let h = has_head (fact.Cti v ∷ facts) begun in go h.named _ _ h.is
  where
    go : (named : Option CertNorm) (s t : List Fact) → fact.Cti v ∷ s ≡ head_facts named ++ t → (v ≡ pos 1) ⊎ (v ≡ pos 2)
    go None _ _ e = inl (cc e)
    go (Some named) _ _ e = inr (cc e)

-- another version is at fault in line 1, since version 1 may stand there
other_version : (v : ℤ) (after : List Fact) → v ≢ pos 1 → v ≢ pos 2 → HasFault (fact.Cti v ∷ after) 1 reason.Version
other_version v after one two =
    content [] after (fact.Cti v) (fact.Cti (pos 1)) refl (λ begun. go (one_or_two v [] begun)) place.version (begins None (fact.Cti (pos 1) ∷ []) facts_of_p refl)
  where
    go : (v ≡ pos 1) ⊎ (v ≡ pos 2) → ⊥
    go (inl e) = one e
    go (inr e) = two e

version_zero : HasFault (fact.Cti (pos 0) ∷ facts_of_p) 1 reason.Version
version_zero = other_version (pos 0) facts_of_p (λ e. omega (arith, ints, e)) (λ e. omega (arith, ints, e))

version_three : HasFault (fact.Cti (pos 3) ∷ facts_of_p) 1 reason.Version
version_three = other_version (pos 3) facts_of_p (λ e. omega (arith, ints, e)) (λ e. omega (arith, ints, e))

-- version 2 alone: its norm is missing in line 2
no_norm : HasFault (fact.Cti (pos 2) ∷ []) 2 reason.Missing
no_norm = missing (begins (Some norm.Term) (fact.Cti (pos 2) ∷ []) (fact.Norm norm.Term ∷ facts_of_p) refl) (λ parts is. go parts.norm _ is.is)
  where
    go : (named : Option CertNorm) (t : List Fact) → fact.Cti (pos 2) ∷ [] ≡ head_facts named ++ t → ⊥
    go None _ e = let same : pos 2 ≡ pos 1 = cc e in omega (arith, ints, same)
    go (Some named) _ e = cc e

-- after version 2 stands its norm
second_fact : (g : Fact) → Begins (fact.Cti (pos 2) ∷ g ∷ []) → (n : CertNorm) × (g ≡ fact.Norm n)
second_fact g begun = let h = has_head (fact.Cti (pos 2) ∷ g ∷ []) begun in go h.named _ _ h.is
  where
    go : (named : Option CertNorm) (s t : List Fact) → fact.Cti (pos 2) ∷ g ∷ s ≡ head_facts named ++ t → (n : CertNorm) × (g ≡ fact.Norm n)
    go None _ _ e = let same : pos 2 ≡ pos 1 = cc e in absurd (omega (arith, ints, same))
    go (Some named) _ _ e = (named, cc e)

-- modes may not stand in its place
modes_for_norm : HasFault (fact.Cti (pos 2) ∷ facts_of_p) 2 reason.Extra
modes_for_norm =
    extra (fact.Cti (pos 2) ∷ []) (fact.Measure p 1 [] (pos 0) ∷ fact.Pre p 1 1 [] ∷ []) (fact.Terminates p ([] ∷ [])) refl
    (begins (Some norm.Term) (fact.Cti (pos 2) ∷ []) (fact.Norm norm.Term ∷ facts_of_p) refl) (λ g same begun. none g same (second_fact g begun))
  where
    none : (g : Fact) → HaveOnePlace (fact.Terminates p ([] ∷ [])) g → (n : CertNorm) × (g ≡ fact.Norm n) → ⊥
    none _ place.itself is = cc is.1
    none _ place.modes is = cc is.1

norm_place : (m : CertNorm) (g : Fact) → HaveOnePlace (fact.Norm m) g → (n : CertNorm) × (g ≡ fact.Norm n)
norm_place m _ place.itself = (m, refl)
norm_place m _ (place.norm {n = n}) = (n, refl)

-- a norm may stand neither in line 1, nor after version 1, nor after another norm
norm_first : HasFault (fact.Norm norm.List ∷ facts_of_p) 1 reason.Extra
norm_first = extra [] facts_of_p (fact.Norm norm.List) refl (begins None [] (fact.Cti (pos 1) ∷ facts_of_p) refl) (λ g same begun. none g (norm_place norm.List g same) begun)
  where
    go : (named : Option CertNorm) (n : CertNorm) (s t : List Fact) → fact.Norm n ∷ s ≡ head_facts named ++ t → ⊥
    go None _ _ _ e = cc e
    go (Some named) _ _ _ e = cc e

    none : (g : Fact) → (n : CertNorm) × (g ≡ fact.Norm n) → Begins (g ∷ []) → ⊥
    none g (n, is) begun = let h = has_head (fact.Norm n ∷ []) (subst (λ z. Begins (z ∷ [])) is begun) in go h.named _ _ _ h.is

norm_in_version_one : HasFault (fact.Cti (pos 1) ∷ fact.Norm norm.List ∷ facts_of_p) 2 reason.Extra
norm_in_version_one =
    extra (fact.Cti (pos 1) ∷ []) facts_of_p (fact.Norm norm.List) refl (begins None (fact.Cti (pos 1) ∷ []) facts_of_p refl)
    (λ g same begun. none g (norm_place norm.List g same) begun)
  where
    go : (named : Option CertNorm) (n : CertNorm) (s t : List Fact) (ms : List (List ℕ)) → fact.Cti (pos 1) ∷ fact.Norm n ∷ s ≡ head_facts named ++ fact.Terminates p ms ∷ t → ⊥
    go None _ _ _ _ e = cc e
    go (Some named) _ _ _ _ e = let same : pos 1 ≡ pos 2 = cc e in omega (arith, ints, same)

    none : (g : Fact) → (n : CertNorm) × (g ≡ fact.Norm n) → Begins (fact.Cti (pos 1) ∷ g ∷ []) → ⊥
    none g (n, is) begun = let h = has_head (fact.Cti (pos 1) ∷ fact.Norm n ∷ []) (subst (λ z. Begins (fact.Cti (pos 1) ∷ z ∷ [])) is begun) in go h.named _ _ _ _ h.is

second_norm : HasFault (fact.Cti (pos 2) ∷ fact.Norm norm.List ∷ fact.Norm norm.Term ∷ facts_of_p) 3 reason.Extra
second_norm =
    extra (fact.Cti (pos 2) ∷ fact.Norm norm.List ∷ []) facts_of_p (fact.Norm norm.Term) refl
    (begins (Some norm.List) (fact.Cti (pos 2) ∷ fact.Norm norm.List ∷ []) facts_of_p refl) (λ g same begun. none g (norm_place norm.Term g same) begun)
  where
    go : (named : Option CertNorm) (m n : CertNorm) (s t : List Fact) (ms : List (List ℕ)) → fact.Cti (pos 2) ∷ fact.Norm m ∷ fact.Norm n ∷ s ≡ head_facts named ++ fact.Terminates p ms ∷ t → ⊥
    go None _ _ _ _ _ e = let same : pos 2 ≡ pos 1 = cc e in omega (arith, ints, same)
    go (Some named) _ _ _ _ _ e = cc e

    none : (g : Fact) → (n : CertNorm) × (g ≡ fact.Norm n) → Begins (fact.Cti (pos 2) ∷ fact.Norm norm.List ∷ g ∷ []) → ⊥
    none g (n, is) begun =
        let h = has_head (fact.Cti (pos 2) ∷ fact.Norm norm.List ∷ fact.Norm n ∷ []) (subst (λ z. Begins (fact.Cti (pos 2) ∷ fact.Norm norm.List ∷ z ∷ [])) is begun) in
        go h.named _ _ _ _ _ h.is
