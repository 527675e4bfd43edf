use Rattle.std.proofs.Common.{◌<◌, ◌∙◌, ◌+◌, ℕ, get_or, length, refl, slice_set, arith}
use Rattle.std.proofs.lemmas.List.{get_or-set_same, get_or-set_other, length-set}
use Rattle.clause_variables.proofs.ListLemmas.{all_at}
use Rattle.clause_variables.proofs.OccurringLemmas.{ends_step}
use Rattle.clause_variables.proofs.occurrences.Occurrences.note_ends.Goals as goal

pub places-preserved : goal.places-preserved
places-preserved c =
    let xs = c.args.variables.now in
    let i = c.places.place in
    let es = c.places.self.ends.items in
    let y = get_or xs i 0 in
    let inv = c.places.invariant in
    let below : y < length es = omega (arith, inv.size, all_at (λ (x : ℕ). x < length c.args.self.now.ends.items) xs i 0 c.requires c.places-test.true) in
    record {
      ends = ends_step xs i es (slice_set es y (i + 1)) (i + 1) c.places-test.true (get_or-set_same es y (i + 1) 0 below) (λ z other. get_or-set_other es y z (i + 1) 0 other) refl inv.ends;
      size = length-set es y (i + 1) ∙ inv.size;
      firsts = inv.firsts;
      within = omega (arith, c.places-test.true);
    }
