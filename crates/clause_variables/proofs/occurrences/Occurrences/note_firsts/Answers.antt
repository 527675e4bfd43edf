use Rattle.std.proofs.Common.{◌≡◌, ◌<◌, ◌∙◌, ◌+◌, ◌-◌, ℕ, get_or, length, refl, slice_set, subst, arith}
use Rattle.std.proofs.lemmas.List.{get_or-set_same, get_or-set_other, length-set}
use Rattle.clause_variables.specs.Occurring.{AreFirsts}
use Rattle.clause_variables.proofs.ListLemmas.{all_at}
use Rattle.clause_variables.proofs.OccurringLemmas.{firsts_step}
use Rattle.clause_variables.proofs.occurrences.Occurrences.note_firsts.Goals as goal

pub places-preserved : goal.places-preserved
places-preserved c =
    let xs = c.args.variables.now in
    let i = c.places.place - 1 in
    let fs = c.places.self.firsts.items in
    let y = get_or xs i 0 in
    let inv = c.places.invariant in
    let next : c.places.place ≡ i + 1 = omega (arith, c.places-test.true) in
    let within : i < length xs = omega (arith, inv.within, next) in
    let below : y < length fs = omega (arith, inv.size, all_at (λ (x : ℕ). x < length c.args.self.now.firsts.items) xs i 0 c.requires within) in
    let F : ℕ → Type 0 = λ n. AreFirsts xs n fs in
    record {
      firsts = firsts_step xs i fs (slice_set fs y i) i within (get_or-set_same fs y i 0 below) (λ z other. get_or-set_other fs y z i 0 other) refl (subst F next inv.firsts);
      size = length-set fs y i ∙ inv.size;
      ends = inv.ends;
      within = omega (arith, within);
    }
