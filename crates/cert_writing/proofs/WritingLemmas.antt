-- The facts of one item more.
use Rattle.std.proofs.Common.{◌≡◌, ◌<◌, ℕ, zero, suc, ◌+◌, List, [], ◌∷◌, ◌++◌, take, get_or, length, ap, sym, ◌∙◌, arith}
use Rattle.std.proofs.lemmas.List.{append-nil, append_assoc}
use Rattle.fact_reading.specs.Numbered.{facts_from}

pub facts_more : {F A : Type 0} (f : ℕ → A → List F) (i n : ℕ) (xs : List A) (x d : A) → n < length xs → x ≡ get_or xs n d → facts_from i f (take (suc n) xs) ≡ facts_from i f (take n xs) ++ f (i + n) x
facts_more f i n [] x d less e = absurd (omega (arith, less))
facts_more f i zero (y ∷ ys) x d less e =
    let here : i + 0 ≡ i = omega (arith) in
    append-nil (f i y) ∙ (λ j. f (sym here j) (sym e j))
facts_more f i (suc n) (y ∷ ys) x d less e =
    let there : suc i + n ≡ i + suc n = omega (arith) in
    ap (λ z. f i y ++ z) (facts_more f (suc i) n ys x d (omega (arith, less)) e ∙ ap (λ k. facts_from (suc i) f (take n ys) ++ f k x) there)
    ∙ sym (append_assoc (f i y) (facts_from (suc i) f (take n ys)) (f (i + suc n) x))

pub facts_next : {F A : Type 0} (f : ℕ → A → List F) (n : ℕ) (xs : List A) (x d : A) → n < length xs → x ≡ get_or xs n d → facts_from 0 f (take n xs) ++ f n x ≡ facts_from 0 f (take (n + 1) xs)
facts_next f n xs x d less e =
    let start : 0 + n ≡ n = omega (arith) in
    let next : suc n ≡ n + 1 = omega (arith) in
    ap (λ k. facts_from 0 f (take n xs) ++ f k x) (sym start) ∙ sym (facts_more f 0 n xs x d less e) ∙ ap (λ k. facts_from 0 f (take k xs)) next
