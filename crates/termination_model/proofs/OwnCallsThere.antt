-- The own calls of a component are all that stand in its rules.
use Rattle.std.proofs.Common.{◌≡◌, ℕ, zero, suc, ◌+◌, List, [], ◌∷◌, slice_get, Some, inl, sym, subst, arith}
use Rattle.linear_rows.specs.Members.{In}
use Rattle.linear_rows.proofs.Members.{in-left, in-right}
use Rattle.termination_model.specs.mappings.View.{Place, Member, Lower, Call, Rule}
use Rattle.termination_model.specs.mappings.OwnCalls.{own_call, own_calls_from}

one_call : (k : Rule) (n : ℕ) (b : Call) (x : Place) (q : ℕ) → x ≡ Member q → In (record { rule = k; place = n; call = b; member = q }) (own_call k n b x)
one_call k n b (Member r) q e = let same : r ≡ q = cc in inl (λ i. record { rule = k; place = n; call = b; member = same i })
one_call k n b (Lower f) q e = cc

-- a call of a member in a rule's body is one of the component's own calls
pub call_there : (k : Rule) (n : ℕ) (bs : List Call) (j : ℕ) (b : Call) (q : ℕ) → slice_get bs j ≡ Some b → b.place ≡ Member q
    → In (record { rule = k; place = n + j; call = b; member = q }) (own_calls_from k n bs)
call_there k n [] j b q at e = cc
call_there k n (x ∷ bs) zero b q at e =
    let same : x ≡ b = cc in
    let here : n + 0 ≡ n = omega arith in
    in-left (own_call k n x x.place) (own_calls_from k (suc n) bs) (record { rule = k; place = n + 0; call = b; member = q })
    (rw here (subst (λ (y : Call). In (record { rule = k; place = n; call = b; member = q }) (own_call k n y y.place)) (sym same) (one_call k n b b.place q e)))
call_there k n (x ∷ bs) (suc j) b q at e =
    let more : n + suc j ≡ suc n + j = omega arith in
    in-right (own_call k n x x.place) (own_calls_from k (suc n) bs) (record { rule = k; place = n + suc j; call = b; member = q })
    (rw more (call_there k (suc n) bs j b q at e))
