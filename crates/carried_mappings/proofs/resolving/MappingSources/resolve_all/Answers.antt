use Rattle.std.proofs.Common.{◌≡◌, ◌+◌, arith, length, subst, sym}
use Rattle.termination_model.specs.sizes.Sizes.{rows_of}
use Rattle.carried_mappings.specs.FoundMappings.{AreFoundTo, AreKeptFound}
use Rattle.carried_mappings.proofs.Resolved.{found_more, kept_more, kept_none, none_found}
use Rattle.carried_mappings.proofs.resolving.MappingSources.resolve_all.Goals as goal

pub loop-c-init : goal.loop-c-init
loop-c-init g c =
    let s = c.args.self.now in
    record {
      found = subst (AreFoundTo (g.N.Norm.expression c.args.norm.now) s.sources.edit.now.after.now s.sources.edit.now.components.now (rows_of s.sizes.now.rows) 0) (sym c.new-all.ensures)
          (none_found (g.N.Norm.expression c.args.norm.now) s.sources.edit.now.after.now s.sources.edit.now.components.now (rows_of s.sizes.now.rows));
      kept = subst (AreKeptFound s) (sym c.new-all.ensures) (kept_none s);
    }

pub loop-c-preserved : goal.loop-c-preserved
loop-c-preserved g c =
    let s = c.args.self.now in
    let inv = c.loop-c.invariant in
    record {
      found = subst (AreFoundTo (g.N.Norm.expression c.args.norm.now) s.sources.edit.now.after.now s.sources.edit.now.components.now (rows_of s.sizes.now.rows) (c.loop-c.c + 1)) (sym c.in_ok-push.ensures.ok)
          (found_more (g.N.Norm.expression c.args.norm.now) s.sources.edit.now.after.now s.sources.edit.now.components.now (rows_of s.sizes.now.rows) c.loop-c.c c.loop-c.all c.in_ok-found.found inv.found c.in_ok-found.ensures.found);
      kept = subst (AreKeptFound s) (sym c.in_ok-push.ensures.ok) (kept_more s c.loop-c.c c.loop-c.all c.in_ok-found.found inv.found.each inv.kept c.in_ok-found.ensures.kept);
    }

pub returns-clause-found : goal.returns-clause-found
returns-clause-found g c =
    let s = c.args.self.now in
    let e : c.loop-c.c ≡ length s.sources.edit.now.components.now.members = omega (arith, c.count-c-end.ensures, c.loop-c-test.false, c.loop-c.auto.c-end) in
    subst (λ n. AreFoundTo (g.N.Norm.expression c.args.norm.now) s.sources.edit.now.after.now s.sources.edit.now.components.now (rows_of s.sizes.now.rows) n c.loop-c.all) e c.loop-c.invariant.found

pub returns-clause-kept : goal.returns-clause-kept
returns-clause-kept g c = c.loop-c.invariant.kept
