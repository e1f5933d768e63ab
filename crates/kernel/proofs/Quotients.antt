-- Laws of the residue of a fraction.
use Prim.Native.Nat.{ℕ, zero, suc, ◌*◌, ◌%◌, ◌<◌}
use mathlib.Core.Path.{◌≡◌, refl, sym, ap, ◌∙◌, subst}
use mathlib.Core.Bool.{Bool, true, false, not}
use native.Mathlib.Nat.{mod-eq_of_lt, lt_irrefl}
use native.Mathlib.Omega.{arith}
use lib.IntN.{ℤ, pos, negsuc}
use lib.Dec.{T, lt→ltb}
use lib.Signed.{le_z, lt_z}
use mir.Syntax.{w64}
use mir.Val.{SFits, to_z as wordZ, of_z}
use mir.ValLaws.{to_z-of_z}
use borrow.Author.Tests.{lt-leb, lt-ltb}
use Rattle.kernel.proofs.Told.{of_word}
use Rattle.algebra.specs.Test.{branch, branch_yes}
use Rattle.algebra.specs.Zmod.{Residue, to_z, residue_path}
use Rattle.euclid.specs.Answer.{done, shown}
use Rattle.euclid.specs.Number.{inverse₀, done₀, shown₀}
use Rattle.residue.specs.Word.{num}
use Rattle.std.specs.Prelude.{Result, Ok, Err}
use Rattle.residue.specs.Number.{UnitOf, FactorOf}
use Rattle.tower.specs.Limits.{p_ok, p_two, p_positive}
use Rattle.tower.specs.Lists.{of_true}
use Rattle.kernel.specs.declared.FractionResidue.{FractionResidue}
use Rattle.kernel.specs.declared.refusals.Refusal.{Refusal}
use Rattle.kernel.specs.declared.refusals.Refusal.TheVariants.{BadModulus, NoResidue}
use Rattle.kernel.specs.Answers.{said, number_of}
use Rattle.kernel.specs.Refusals.{refused, unless}
use Rattle.kernel.specs.Calls.{inverse_of, is_given, times_given, fraction_number, fraction_residue, fraction_by}
use Rattle.kernel.specs.Fractions.{Divided, Shared, Quotient, fraction_of}
use Rattle.kernel.specs.Promises.{FractionGiven}

-- ---- the specification's inverse is the one that was found
module _ (p : ℕ) (one : 1 < p) (positive : 0 < p) (e : ℕ) where
  abbrev pub c : Residue p
  c = to_z p positive e

  pub done_by : (u : ℕ) → UnitOf p (e % p) u → (v : Residue p) → v.0 ≡ u → inverse₀ p positive c ≡ done v
  done_by u h v ev = done₀ p positive c v h.coprime (residue_path p _ _ (ap (λ x. (x * (e % p)) % p) ev ∙ h.inverse ∙ sym (mod-eq_of_lt one))) some
    where
      some : ¬ (c ≡ to_z p positive 0)
      some z =
          let is : e % p ≡ 0 = ap (λ x. x.0) z ∙ mod-eq_of_lt positive in
          let none : (u * (e % p)) % p ≡ 0 = ap (λ x. (u * x) % p) is ∙ ap (λ x. x % p) (omega arith) ∙ mod-eq_of_lt positive in
          lt_irrefl 0 (omega (arith, h.inverse, none))

  pub shown_by : (h : ℕ) → FactorOf p (e % p) h → inverse₀ p positive c ≡ shown h
  shown_by h f = shown₀ p positive c h f.common f.above

-- ---- the call's numbers
abbrev fraction_number_by : (b x : Bool) → (T b → Bool) → ℕ
fraction_number_by b x f = unless b 1 (unless x 10 (unless (branch b f (λ _. false)) 10 0))

number_bad : (b x : Bool) (f : T b → Bool) → b ≡ false → fraction_number_by b x f ≡ 1
number_bad false x f h = refl
number_bad true x f h = let z : ◌≡◌ {A = ℕ} 0 1 = cc in absurd (lt_irrefl 0 (omega arith))

number-low : (b x : Bool) (f : T b → Bool) → T b → x ≡ false → fraction_number_by b x f ≡ 10
number-low true x f t h = rw h refl
number-low false x f t h = elim t [ ]

number_by : (b x : Bool) (f : T b → Bool) (t : T b) → x ≡ true → (y : Bool) → f t ≡ y → fraction_number_by b x f ≡ unless y 10 0
number_by true x f t h y k = rw (h, k) refl
number_by false x f t h y k = elim t [ ]

module _ (p n e : ℤ) where
  number_is : fraction_number p e ≡ fraction_number_by (p_ok p) (lt_z (pos 0) e) (λ h. is_given (inverse_of p e h))
  unfolding fraction_number
  number_is = refl

  by : (k : ℕ) → fraction_number p e ≡ k → (r : FractionResidue) → said r.answer ≡ (fraction_by k (fraction_residue p n e)).said
      → r.residue ≡ (fraction_by k (fraction_residue p n e)).residue → FractionGiven p n e r
  by k z r h l = record {
    answer = h ∙ ap (λ x. (fraction_by x (fraction_residue p n e)).said) (sym z);
    residue = l ∙ ap (λ x. (fraction_by x (fraction_residue p n e)).residue) (sym z);
  }

  pub fraction_p : p_ok p ≡ false → FractionGiven p n e (fraction_of (Err BadModulus))
  fraction_p h = by 1 (number_is ∙ number_bad (p_ok p) (lt_z (pos 0) e) (λ h. is_given (inverse_of p e h)) h) _ refl refl

  pub fraction-e : p_ok p ≡ true → lt_z (pos 0) e ≡ false → FractionGiven p n e (fraction_of (Err NoResidue))
  fraction-e h l = by 10 (number_is ∙ number-low (p_ok p) _ _ (of_true _ h) l) _ refl refl

  module _ (t : T (p_ok p)) (l : lt_z (pos 0) e ≡ true) where
    fraction_shared : (k : Refusal) → number_of k ≡ 10 → Shared (num e) (num p) → FractionGiven p n e (fraction_of (Err k))
    fraction_shared k ek s =
        let i = shown_by (num p) (p_two p t) (p_positive p t) (num e) s.divisor s.shared in
        by 10 (number_is ∙ number_by (p_ok p) _ _ t l false (ap is_given i)) _ (ap refused ek) refl

    fraction_done : (r : ℕ) → Divided n (num e) (num p) r → FractionGiven p n e (fraction_of (Ok r))
    unfolding fraction_residue
    fraction_done r s =
        let v : Residue (num p) = (s.unit, lt→ltb _ _ s.inverts.small) in
        let i = done_by (num p) (p_two p t) (p_positive p t) (num e) s.unit s.inverts v refl in
        by 0 (number_is ∙ number_by (p_ok p) _ _ t l true (ap is_given i)) _ refl (s.is ∙ ap (times_given (num p) n) (sym i) ∙ sym (branch_yes (p_ok p) _ _ t))

    pub fraction-found : (r : Result ℕ Refusal) → Quotient n (num e) (num p) r → FractionGiven p n e (fraction_of r)
    fraction-found (Ok r) q = fraction_done r q
    fraction-found (Err k) q = fraction_shared k q.0 q.1

-- ---- what the call learns from its tests
pub e_told : {e : ℤ} → SFits w64 e → (b : Bool) → le_z (wordZ w64 (of_z w64 e)) (pos 0) ≡ b → lt_z (pos 0) e ≡ not b
e_told {e} fits b eb = above e b (sym (of_word (λ x. le_z x (pos 0)) fits) ∙ eb)
  where
    above : (e : ℤ) (b : Bool) → le_z e (pos 0) ≡ b → lt_z (pos 0) e ≡ not b
    above (pos zero) b h = ap not h
    above (pos (suc m)) b h = lt-ltb 0 (suc m) (omega arith) ∙ ap not (sym (lt-leb (suc m) 0 (omega arith)) ∙ h)
    above (negsuc m) b h = ap not h

pub quotient-plain : {n : ℤ} {e f p q : ℕ} (r : Result ℕ Refusal) → SFits w64 n → e ≡ f → p ≡ q → Quotient (wordZ w64 (of_z w64 n)) e p r → Quotient n f q r
quotient-plain {n} {e} {f} {p} {q} r fits ef pq h = subst (λ x. Quotient n x q r) ef (subst (λ y. Quotient n e y r) pq (subst (λ x. Quotient x e p r) (to_z-of_z w64 n fits) h))
