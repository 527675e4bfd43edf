use Rattle.std.proofs.Common.{◌≡◌, ℕ, ◌<◌, ◌≤◌, ◌∙◌, ◌⊎◌, inl, inr, sym, subst, refl, Bool, true, false}
use Rattle.std.specs.Prelude.{◌↔◌, IsTrue}
use Rattle.std.proofs.Math.Dec.{leb}
use Rattle.std.proofs.lemmas.Bool.{leb-false, leb-true}
use Rattle.polyhedra.specs.Making.{SaysKept}
use Rattle.size_chains.proofs.Branches.{same_all, keep_some, blown_licence}
use Rattle.size_chains.proofs.stepping.compared.Goals as goal

-- where rows are not joined, the passes of joins are over or no row is known to fail
not_joined : (failed : Bool) (pass : ℕ) (joined : Bool) → (IsTrue joined ↔ ((failed ≡ true) × (pass ≤ 3))) → joined ≡ false → (3 < pass) ⊎ (failed ≡ false)
not_joined false pass joined is off = inr refl
not_joined true pass joined is off = go (leb pass 3) refl
  where
    go : (b : Bool) → leb pass 3 ≡ b → (3 < pass) ⊎ (true ≡ false)
    go true e = let never : IsTrue false = subst IsTrue off (is.1 (refl, leb-true pass 3 e)) in cc
    go false e = inl (leb-false pass 3 e)

pub kept_weakly-requires-clause-licence : goal.kept_weakly-requires-clause-licence
kept_weakly-requires-clause-licence g c =
    let kept = c.in_ok-kept.kept in
    let none = not_joined kept.failed c.args.pass c.are_joined.result c.are_joined.ensures c.if-are_joined.false in
    blown_licence g.D.Domain.width g.D.Domain.listed g.D.Domain.speaks c.args.system.now c.requires.system c.args.pass (g.D.Domain.listed c.args.old.now) (g.D.Domain.listed c.args.image.now)
    (g.D.Domain.listed kept.value) kept.failed kept.weak kept.by c.in_ok-kept.ensures.rows c.if-kept.true none

pub returns-then-kept-2 : goal.returns-then-kept-2
returns-then-kept-2 g c =
    let kept = c.in_ok-kept.kept in
    let none = not_joined kept.failed c.args.pass c.are_joined.result c.are_joined.ensures c.if-are_joined.false in
    let late : 3 < c.args.pass = elim none [
      | inl l ↦ l
      | inr e ↦ let never : true ≡ false = sym c.if-kept-2.true ∙ e in cc
    ] in
    let says = subst (λ (b : Bool). SaysKept c.args.system.now (g.D.Domain.listed c.args.old.now) (g.D.Domain.listed kept.value) true b kept.by) c.if-kept.false
    (subst (λ (b : Bool). SaysKept c.args.system.now (g.D.Domain.listed c.args.old.now) (g.D.Domain.listed kept.value) b kept.weak kept.by) c.if-kept-2.true c.in_ok-kept.ensures.rows) in
    keep_some g.D.Domain.width g.D.Domain.listed g.D.Domain.speaks c.args.system.now c.requires.system c.args.pass (g.D.Domain.listed c.args.old.now) (g.D.Domain.listed c.args.image.now)
    c.requires.image c.requires.old (g.D.Domain.listed kept.value) kept.by says late kept.value refl (c.in_ok-kept.ensures.arity ∙ c.requires.old_width)

pub returns : goal.returns
returns g c =
    let kept = c.in_ok-kept.kept in
    let says = subst (λ (b : Bool). SaysKept c.args.system.now (g.D.Domain.listed c.args.old.now) (g.D.Domain.listed kept.value) false b kept.by) c.if-kept.false
    (subst (λ (b : Bool). SaysKept c.args.system.now (g.D.Domain.listed c.args.old.now) (g.D.Domain.listed kept.value) b kept.weak kept.by) c.if-kept-2.false c.in_ok-kept.ensures.rows) in
    same_all g.D.Domain.width g.D.Domain.listed g.D.Domain.speaks c.args.system.now c.requires.system c.args.pass (g.D.Domain.listed c.args.old.now) (g.D.Domain.listed c.args.image.now)
    c.requires.image c.requires.old (g.D.Domain.listed kept.value) kept.by says
