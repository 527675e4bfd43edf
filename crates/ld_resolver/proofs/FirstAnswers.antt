-- The answers that a run has given are the first of all its answers.
use Rattle.std.proofs.Common.{◌≡◌, ℕ, zero, suc, ◌||◌, ◌≤◌, Bool, true, false, if◌then◌else◌, List, [], ◌∷◌, ◌++◌, map, take, drop, filter_map, length, refl, ap, sym, ◌∙◌, arith}
use Rattle.std.specs.List.{cons_option, list_any}
use Rattle.std.proofs.lemmas.List.{map-append}
use Rattle.std.proofs.lemmas.List.Elements.{filter_map-append}
use Rattle.cti_terms.specs.declared.atom_list.Atom.{Atom}
use Rattle.cti_terms.specs.declared.derivation.Goal.{Goal}
use Rattle.cti_terms.specs.Listing.{Listing}
use Rattle.cti_terms.specs.Nodes.{nodes, first_nodes}
use Rattle.cti_terms.specs.Answers.{answer_by, answer_of, answers, leaves_wide, up_to_wide, visited}
use Rattle.ld_resolver.specs.declared.answer.Answer.{Answer}
use Rattle.ld_resolver.specs.declared.running.Running.{Running}
use Rattle.ld_resolver.specs.declared.search.Search.{Search}
use Rattle.ld_resolver.specs.Told.{told}
use Rattle.ld_resolver.specs.Walk.{Visit, visit, met_answers}
use Rattle.ld_resolver.specs.Searches.{left_of}
use Rattle.ld_resolver.specs.Progress.{IsUnderWay, HasGiven}
use Rattle.ld_resolver.proofs.WalkLaws.{walk_nodes, met_visits, wide_visits}
use Rattle.ld_resolver.proofs.ProgressLaws.{map-take}
use Rattle.ld_resolver.proofs.RunningLaws.{under_way, fresh}

take_past : {X : Type 0} (n : ℕ) (xs ys : List X) → length xs ≤ n → (zs : List X) × (take n (xs ++ ys) ≡ xs ++ zs)
take_past n [] ys l = (take n ys, refl)
take_past zero (x ∷ xs) ys l = absurd (omega (arith, l))
take_past (suc n) (x ∷ xs) ys l = let r = take_past n xs ys (omega (arith, l)) in (r.0, ap (λ l. x ∷ l) r.1)

-- where a list's images begin with these
record Parted {X Y : Type 0} (f : X → Y) (xs : List X) (ys : List Y) : Type 0 where
  front : List X
  back : List X
  are : xs ≡ front ++ back
  fronts : map f front ≡ ys

abbrev head_or : {Y : Type 0} → Y → List Y → Y
head_or z [] = z
head_or z (y ∷ ys) = y

part : {X Y : Type 0} (f : X → Y) (xs : List X) (ys zs : List Y) → map f xs ≡ ys ++ zs → Parted f xs ys
part f xs [] zs e = record { front = []; back = xs; are = refl; fronts = refl }
part f [] (y ∷ ys) zs e = cc
part f (x ∷ xs) (y ∷ ys) zs e =
    let s = part f xs ys zs (ap (drop 1) e) in
    record { front = x ∷ s.front; back = s.back; are = ap (λ l. x ∷ l) s.are; fronts = λ i. ap (head_or y) e i ∷ s.fronts i }

-- what leaves no wide goal is visited
visited_past : (p : Listing) (g : Goal) (ns ms : List (List ℕ)) → list_any (leaves_wide p g) ns ≡ false → up_to_wide p g (ns ++ ms) ≡ ns ++ up_to_wide p g ms
visited_past p g [] ms e = refl
visited_past p g (ks ∷ ns) ms e = go (leaves_wide p g ks) refl e (visited_past p g ns ms)
  where
    go : (b : Bool) → leaves_wide p g ks ≡ b → (b || list_any (leaves_wide p g) ns) ≡ false → (list_any (leaves_wide p g) ns ≡ false → up_to_wide p g (ns ++ ms) ≡ ns ++ up_to_wide p g ms) → up_to_wide p g (ks ∷ (ns ++ ms)) ≡ ks ∷ (ns ++ up_to_wide p g ms)
    go true s h rec = cc
    go false s h rec = ap (λ (b : Bool). ks ∷ (if b then [] else up_to_wide p g (ns ++ ms))) s ∙ ap (λ (l : List (List ℕ)). ks ∷ l) (rec h)

module _ (p : Listing) (g : Goal) (n : ℕ) (x : Search) (steps most : ℕ) (given : List Answer) (u : IsUnderWay p g n x steps most given) where
  parts : Parted (visit p g.atoms [] 0 g) (first_nodes p g n) u.done.0
  parts =
      let walked = sym (walk_nodes p g.atoms (suc n) [] 0 g) ∙ u.done.1.walked in
      let within : length u.done.0 ≤ n = omega (arith, u.done.1.counted, u.within) in
      let t = take_past n u.done.0 (left_of g.atoms n x) within in
      part (visit p g.atoms [] 0 g) (first_nodes p g n) u.done.0 t.0 (map-take (visit p g.atoms [] 0 g) n (nodes p (suc n) g) ∙ ap (take n) walked ∙ t.1)

  fit : list_any (leaves_wide p g) ([] ∷ parts.front) ≡ false
  fit = λ i. u.begins i || (sym (wide_visits p g parts.front) ∙ ap (list_any (λ (v : Visit). v.wide)) parts.fronts ∙ u.done.1.fit) i

  all : visited p g n ≡ ([] ∷ parts.front) ++ up_to_wide p g parts.back
  all = ap (λ (ns : List (List ℕ)). up_to_wide p g ([] ∷ ns)) parts.are ∙ visited_past p g ([] ∷ parts.front) parts.back fit

  firsts : given ≡ map told (filter_map (answer_of p g) ([] ∷ parts.front))
  firsts = u.done.1.told_so_far ∙ ap (λ (l : List (List Atom)). map told (cons_option (answer_by g.atoms [] g.atoms) l)) (ap met_answers (sym parts.fronts) ∙ met_visits p g parts.front)

  pub first_under_way : (rest : List Answer) × (given ++ rest ≡ map told (answers p g n))
  first_under_way = (
    map told (filter_map (answer_of p g) (up_to_wide p g parts.back)),
    ap (λ (l : List Answer). l ++ map told (filter_map (answer_of p g) (up_to_wide p g parts.back))) firsts
        ∙ sym (map-append told (filter_map (answer_of p g) ([] ∷ parts.front)) (filter_map (answer_of p g) (up_to_wide p g parts.back)))
        ∙ ap (map told) (sym (filter_map-append (answer_of p g) ([] ∷ parts.front) (up_to_wide p g parts.back)))
        ∙ ap (λ (ns : List (List ℕ)). map told (filter_map (answer_of p g) ns)) (sym all),
  )

pub given_first : (p : Listing) (g : Goal) (n : ℕ) (run : Running) (given : List Answer) → HasGiven p g n run given → (rest : List Answer) × (given ++ rest ≡ map told (answers p g n))
given_first p g n run given h = go run.has_begun refl
  where
    go : (b : Bool) → run.has_begun ≡ b → (rest : List Answer) × (given ++ rest ≡ map told (answers p g n))
    go true e =
        let first = first_under_way run.search.program.now run.goal.now run.budget run.search run.totals.steps run.totals.longest given (under_way p g n run given h e) in
        (first.0, first.1 ∙ (λ i. map told (answers (h.program i) (h.goal i) (h.budget i))))
    go false e = (map told (answers p g n), ap (λ (l : List Answer). l ++ map told (answers p g n)) (fresh p g n run given h e).1)
