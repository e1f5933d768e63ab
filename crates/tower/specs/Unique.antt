-- Words in form are the writing of exactly one element, and each element has one writing: at every level, and for slots. This is demand 2's last sentence:
-- "Each polynomial that fits has one writing in a slot of given size, and each writing that passes the check is one polynomial."
--
-- Exactly f w == w is f of exactly one thing
-- coding      == writing, reading and form of level n agree;  slot_coding == of slots of k coefficients
-- form_iff, slot_iff == words pass the test precisely when they are the writing of exactly one element, one polynomial
-- writing, one_writing == a polynomial below k is what exactly one list of words in form holds
use Rattle.std.specs.Prelude.{◌≡◌, refl, Bool, ◌&&◌, ◌↔◌, List, [], ◌∷◌, ℤ, negsuc, T, eqb, length, get_or}
use Rattle.std.proofs.Common.{sym, ◌∙◌, subst, lt_irrefl, mod-eq_of_lt, arith, eqb→eq, ltb→lt}
use Rattle.std.proofs.Math.Path.{ap}
use Prim.Native.Nat.{ℕ, zero, suc, ◌+◌, ◌*◌, ◌%◌, ◌<◌}
use Rattle.std.proofs.Math.IntN.{pos}
use Rattle.algebra.specs.Test.{both_l}
use Rattle.algebra.specs.Vec.{Vec, Below, coef, trunc, zeroᵛ, coef-trunc, coef_inj}
use Rattle.algebra.specs.Zmod.{residue_path, mod_own}
use Rattle.residue.specs.Word.{num}
use Rattle.tower.specs.Levels.{degree, El, group, zero_test}
use Rattle.tower.specs.Writing.{size, write, read, slot, unslot, write_long}
use Rattle.tower.specs.Form.{copies, zero_words, residue_ok, is_in_form, slot_form}
use Rattle.tower.specs.Coding.{Coding, up}

pub record Exactly {A : Type 0} (f : A → List ℤ) (w : List ℤ) : Type 0 where
  pub this : A
  pub holds : f this ≡ w
  pub only : (y : A) → f y ≡ w → y ≡ this

exactly : {A : Type 0} {o : A} {s : ℕ} {z : List ℤ} {good : List ℤ → Bool} (C : Coding A o s z good) (w : List ℤ) → T (good w) ↔ Exactly C.write w
exactly {good} C w = (
  λ h. record { this = C.read w; holds = C.write_read w h; only = λ y e. sym (C.read_write y) ∙ ap C.read e },
  λ e. subst (λ v. T (good v)) e.holds (C.good_write e.this),
)

module _ (p : ℕ) (p_pos : 0 < p) (d : List ℕ) where
  -- the laws of writing and reading at level n
  pub record Laws (n : ℕ) : Type 0 where
    pub read_write : (x : El p d n) → read p p_pos d n (write p d n x) ≡ x
    pub write-zero : write p d n (group p p_pos d n).𝟘 ≡ zero_words d n
    pub good_write : (x : El p d n) → T (is_in_form p d n (write p d n x))
    pub write_read : (w : List ℤ) → T (is_in_form p d n w) → write p d n (read p p_pos d n w) ≡ w

  abbrev pub coding_by : (n : ℕ) → Laws n → Coding (El p d n) (group p p_pos d n).𝟘 (size d n) (zero_words d n) (is_in_form p d n)
  coding_by n l = record {
    write = write p d n;
    read = read p p_pos d n;
    long = write_long p d n;
    read_write = l.read_write;
    write-zero = l.write-zero;
    good_write = l.good_write;
    write_read = l.write_read;
  }

  one_word : (w : List ℤ) → T (eqb (length w) 1 && residue_ok p (get_or w 0 (pos 0))) → pos (num (get_or w 0 (pos 0)) % p) ∷ [] ≡ w
  one_word [] h = absurd h
  one_word (pos n ∷ []) h = ap (λ m. pos m ∷ []) (mod-eq_of_lt (ltb→lt n p h))
  one_word (x ∷ y ∷ w) h = absurd (lt_irrefl 0 (omega (arith, eqb→eq (length (x ∷ y ∷ w)) 1 (both_l (eqb (length (x ∷ y ∷ w)) 1) _ h))))
  one_word (negsuc _ ∷ []) h = elim h [ ]

  pub laws : (n : ℕ) → Laws n
  unfolding write read is_in_form zero_words
  laws zero = record {
    read_write = λ x. residue_path p _ _ (mod_own p p_pos x x.0 refl);
    write-zero = ap (λ m. pos m ∷ []) (mod-eq_of_lt p_pos);
    good_write = λ x. x.1;
    write_read = one_word;
  }
  laws (suc n) =
      let U = up (zero_test p p_pos d n) (size d n) (zero_words d n) (is_in_form p d n) (coding_by n (laws n)) (degree d n) in
      record { read_write = U.read_write; write-zero = U.write-zero; good_write = U.good_write; write_read = U.write_read }

  abbrev pub coding : (n : ℕ) → Coding (El p d n) (group p p_pos d n).𝟘 (size d n) (zero_words d n) (is_in_form p d n)
  coding n = coding_by n (laws n)

  pub form_iff : (n : ℕ) (w : List ℤ) → T (is_in_form p d n w) ↔ Exactly (write p d n) w
  form_iff n w = exactly (coding n) w

  -- slots of k coefficients
  abbrev pub slot_coding : (n k : ℕ) → Coding (Vec (El p d n) k) (zeroᵛ (group p p_pos d n).𝟘 k) (k * size d n + 1) (negsuc 0 ∷ copies k (zero_words d n)) (slot_form p d n k)
  slot_coding n k = up (zero_test p p_pos d n) (size d n) (zero_words d n) (is_in_form p d n) (coding n) k

  pub slot_iff : (n k : ℕ) (w : List ℤ) → T (slot_form p d n k w) ↔ Exactly (slot p d n k) w
  slot_iff n k w = exactly (slot_coding n k) w

  -- what is written is read back, and a polynomial has one writing in a slot of k coefficients
  pub unslot-slot : (n k : ℕ) (v : Vec (El p d n) k) → unslot p p_pos d n k (slot p d n k v) ≡ v
  unslot-slot n k v = (slot_coding n k).read_write v

  pub slot-unslot : (n k : ℕ) (w : List ℤ) → T (slot_form p d n k w) → slot p d n k (unslot p p_pos d n k w) ≡ w
  slot-unslot n k w h = (slot_coding n k).write_read w h

  pub slot-form : (n k : ℕ) (v : Vec (El p d n) k) → T (slot_form p d n k (slot p d n k v))
  slot-form n k v = (slot_coding n k).good_write v

  -- "Each polynomial that fits has one writing in a slot of given size": f, a coefficient function below k, is what exactly one list of words in form holds
  pub record Holding (n k : ℕ) (f : ℕ → El p d n) (w : List ℤ) : Type 0 where
    pub in_form : T (slot_form p d n k w)
    pub coefficients : (i : ℕ) → coef (group p p_pos d n).𝟘 k (unslot p p_pos d n k w) i ≡ f i

  pub writing : (n k : ℕ) (f : ℕ → El p d n) → Below (group p p_pos d n).𝟘 k f → Holding n k f (slot p d n k (trunc k f))
  writing n k f b = record {
    in_form = slot-form n k (trunc k f);
    coefficients = λ i. ap (λ v. coef (group p p_pos d n).𝟘 k v i) (unslot-slot n k (trunc k f)) ∙ coef-trunc (group p p_pos d n).𝟘 k f b i;
  }

  pub one_writing : (n k : ℕ) (f : ℕ → El p d n) (u w : List ℤ) → Holding n k f u → Holding n k f w → u ≡ w
  one_writing n k f u w hu hw =
      sym (slot-unslot n k u hu.in_form)
      ∙ ap (slot p d n k) (coef_inj (group p p_pos d n).𝟘 k _ _ (λ i. hu.coefficients i ∙ sym (hw.coefficients i)))
      ∙ slot-unslot n k w hw.in_form
