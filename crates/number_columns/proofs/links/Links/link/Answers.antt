use Rattle.std.proofs.Common.{◌≡◌, ◌∙◌, ◌<◌, ◌≤◌, ℕ, List, length, refl, sym, ap, set, arith}
use Rattle.number_columns.specs.Links.{AreFalling, AreLinked, LinksMore, NoPair, Respects, ThisPair, parent}
use Rattle.number_columns.proofs.LinkLaws.{links_then, set_linked, set_root}
use Rattle.number_columns.proofs.links.Links.link.Goals as goal

-- two finds, and then one root below the other
module _ (a b c : List ℕ) (x y r q at next : ℕ) (first : LinksMore NoPair a b) (second : LinksMore NoPair b c) (of_x : AreLinked a r x) (of_y : AreLinked b q y) (known : at < length c) where
  both : LinksMore NoPair a c
  both = links_then NoPair NoPair NoPair a b c (λ n m p. p) (λ n m p. p) first second

  roots_linked : (f : ℕ → ℕ) → f x ≡ f y → Respects f c → f r ≡ f q
  roots_linked f e h = of_x f (first.keeps f (second.keeps f h)) ∙ e ∙ sym (of_y f (second.keeps f h))

  joined : next ≤ at → parent c at ≡ at → ((f : ℕ → ℕ) → f r ≡ f q → f next ≡ f at) → LinksMore (ThisPair x y) a (set c at next)
  joined le root same =
      links_then (ThisPair x y) NoPair (ThisPair x y) a c (set c at next) (λ n m p. absurd p) (λ n m p. p) both
      (set_root c at next second.falling known (ThisPair x y) le root (λ f pairs h. same f (roots_linked f (pairs x y (refl, refl)) h)))

  joined_linked : next ≤ at → parent c at ≡ at → ((f : ℕ → ℕ) → f next ≡ f at → f r ≡ f q) → AreLinked (set c at next) x y
  joined_linked le root same f h =
      let hc : Respects f c = (set_root c at next second.falling known (λ n m. (n ≡ next) × (m ≡ at)) le root (λ g pairs k. pairs next at (refl, refl))).keeps f h in
      let hb = second.keeps f hc in
      sym (of_x f (first.keeps f hb)) ∙ same f (set_linked c at next second.falling known f h) ∙ of_y f hb

pub returns-then-first-second-clause-links : goal.returns-then-first-second-clause-links
returns-then-first-second-clause-links c =
    let a = c.args.self.now.parents.items in
    let b = c.find-first.new.self.parents.items in
    let d = c.find-second.new.self.parents.items in
    let r = c.find-first.result in
    let q = c.find-second.result in
    joined a b d c.args.first c.args.second r q q r c.find-first.ensures.links c.find-second.ensures.links c.find-first.ensures.linked c.find-second.ensures.linked (omega (arith, c.find-first.ensures.links.count, c.find-second.ensures.links.count, c.find-second.ensures.earlier))
    (omega arith) c.find-second.ensures.root (λ f e. e)

pub returns-then-first-second-clause-linked : goal.returns-then-first-second-clause-linked
returns-then-first-second-clause-linked c =
    let a = c.args.self.now.parents.items in
    let b = c.find-first.new.self.parents.items in
    let d = c.find-second.new.self.parents.items in
    let r = c.find-first.result in
    let q = c.find-second.result in
    joined_linked a b d c.args.first c.args.second r q q r c.find-first.ensures.links c.find-second.ensures.links c.find-first.ensures.linked c.find-second.ensures.linked (omega (arith, c.find-first.ensures.links.count, c.find-second.ensures.links.count, c.find-second.ensures.earlier))
    (omega arith) c.find-second.ensures.root (λ f e. e)

pub returns-else-first-second-clause-links : goal.returns-else-first-second-clause-links
returns-else-first-second-clause-links c =
    let a = c.args.self.now.parents.items in
    let b = c.find-first.new.self.parents.items in
    let d = c.find-second.new.self.parents.items in
    let r = c.find-first.result in
    let q = c.find-second.result in
    joined a b d c.args.first c.args.second r q r q c.find-first.ensures.links c.find-second.ensures.links c.find-first.ensures.linked c.find-second.ensures.linked (omega (arith, c.find-first.ensures.links.count, c.find-second.ensures.links.count, c.find-first.ensures.earlier))
    (omega arith) (c.find-second.ensures.roots r c.find-first.ensures.root) (λ f e. sym e)

pub returns-else-first-second-clause-linked : goal.returns-else-first-second-clause-linked
returns-else-first-second-clause-linked c =
    let a = c.args.self.now.parents.items in
    let b = c.find-first.new.self.parents.items in
    let d = c.find-second.new.self.parents.items in
    let r = c.find-first.result in
    let q = c.find-second.result in
    joined_linked a b d c.args.first c.args.second r q r q c.find-first.ensures.links c.find-second.ensures.links c.find-first.ensures.linked c.find-second.ensures.linked (omega (arith, c.find-first.ensures.links.count, c.find-second.ensures.links.count, c.find-first.ensures.earlier))
    (omega arith) (c.find-second.ensures.roots r c.find-first.ensures.root) (λ f e. sym e)
