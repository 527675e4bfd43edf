use Rattle.std.proofs.Common.{◌≡◌, ℕ, ℤ, pos, negsuc, rules, ◌<◌, ◌≤◌, Bool, true, false, nat_lt, None, refl, sym, subst, arith}
use Rattle.std.proofs.lemmas.Bool.Decides.{nat_tests}
use Rattle.std.proofs.lemmas.Int.{ints, to_z-of_z}
use Rattle.std.specs.Int.{FitsUnsigned, w32, w128}
use Rattle.std.specs.Prelude.{FitsSigned}
use Rattle.cti_terms.specs.Listing.{IsProgram, Listing}
use Rattle.cti_terms.specs.declared.limits.TheConstants.{MOST_ARGUMENTS}
use Rattle.edit_texts.specs.Edits.{predicate_in}
use Rattle.edit_texts.proofs.PlayLemmas.{none_as_wide}
use Rattle.edit_texts.proofs.playing.predicate_in.Goals as goal

-- no predicate has an arity that does not fit
absent : (p : Listing) (name : ℕ) (z : ℤ) → IsProgram p → (FitsUnsigned w32 z → ⊥) → None ≡ predicate_in p name z
absent p name (pos a) is unfit = sym (none_as_wide name a p.preds is.arities (go (nat_lt MOST_ARGUMENTS a) refl))
  where
    go : (b : Bool) → nat_lt MOST_ARGUMENTS a ≡ b → MOST_ARGUMENTS < a
    go true e = grind (arith, nat_tests)
    go false e = absurd (let few : a ≤ MOST_ARGUMENTS = grind (arith, nat_tests) in unfit (omega (arith, ints, few)))
absent p name (negsuc k) is unfit = refl

pub returns-in-Err-clause-number : goal.returns-in-Err-clause-number
returns-in-Err-clause-number c =
    let fits : FitsSigned w128 c.args.arity = search rules in
    let same = to_z-of_z w128 c.args.arity fits in
    absent c.args.program.now c.args.name.0 c.args.arity c.clauses-program.ensures.sound (subst (λ (z : ℤ). FitsUnsigned w32 z → ⊥) same c.in-Err.ensures)
