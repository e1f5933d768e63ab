-- How words hold elements, slots and towers. A word is a whole number; an element of level 2 over d = (3, 2), for example, is 9 words:
--
--     degree | degree c_0 c_1 c_2 | degree c_0 c_1 c_2
--
-- its own degree word and two elements of level 1, each a degree word and three residues. A degree word is -1 for zero. The zero of level 1 for d_1 = 3
-- is -1 0 0 0.
--
-- size d n    == S_n, the words of an element of level n;  degree_count == one more than the degree of what a slot holds, by its degree word
-- write, read == the words of an element, and back;  slot, unslot == those of k coefficients and their degree, and back
-- tower_words == those of a tower's polynomials, the topmost first;  tower_of == and back
use Prim.Native.Nat.{ℕ, zero, suc, ◌+◌, ◌*◌, ◌<◌}
use Rattle.std.specs.Prelude.{◌≡◌, List, [], ◌∷◌, ◌++◌, ℤ, pos, negsuc, length, get_or, take, drop, Bool}
use Rattle.std.proofs.Math.Path.{refl}
use Rattle.std.proofs.Common.{sym, zero-mul}
use Rattle.std.proofs.Math.Nat.{suc-mul}
use native.Mathlib.Omega.{arith}
use Rattle.std.proofs.Math.ListN.{length-append}
use Rattle.algebra.specs.Zmod.{to_z}
use Rattle.residue.specs.Word.{num}
use Rattle.algebra.specs.Vec.{Vec, topped}
use Rattle.algebra.specs.Shape.{strip, count}
use Rattle.tower.specs.Levels.{degree, El, is_zero, Tower, ring}

-- "S_0 = 1 and S_i = d_i · S_(i-1) + 1"
unfoldable pub size : List ℕ → ℕ → ℕ
size d zero = 1
size d (suc n) = degree d n * size d n + 1

pub size-zero : (d : List ℕ) → size d 0 ≡ 1
unfolding size
size-zero d = refl

pub size_suc : (d : List ℕ) (n : ℕ) → size d (suc n) ≡ degree d n * size d n + 1
unfolding size
size_suc d n = refl

pub size-pos : (d : List ℕ) (n : ℕ) → 0 < size d n
size-pos d zero = omega (arith, size-zero d)
size-pos d (suc n) = omega (arith, size_suc d n)

-- m_(n+1) has S_(n+1) + S_n words
abbrev pub modulus_size : List ℕ → ℕ → ℕ
modulus_size d n = size d (suc n) + size d n

-- the words of the whole tower
unfoldable pub tower_size : List ℕ → ℕ → ℕ
tower_size d zero = 0
tower_size d (suc n) = modulus_size d n + tower_size d n

pub tower_size_suc : (d : List ℕ) (n : ℕ) → tower_size d (suc n) ≡ modulus_size d n + tower_size d n
unfolding tower_size
tower_size_suc d n = refl

-- one more than the degree, as a degree word: "A degree word is -1 for the zero polynomial."
abbrev pub degree_word : ℕ → ℤ
degree_word zero = negsuc 0
degree_word (suc e) = pos e

-- and back: the coefficients that a degree word counts, 0 for every negative one
abbrev pub count_of : ℤ → ℕ
count_of (pos m) = suc m
count_of (negsuc m) = 0

-- one more than the degree of what a slot holds, 0 for zero
abbrev pub degree_count : List ℤ → ℕ
degree_count a = count_of (get_or a 0 (pos 0))

-- elements one after the other, lowest first
unfoldable pub writes : {A : Type 0} → (A → List ℤ) → (k : ℕ) → Vec A k → List ℤ
writes f zero v = []
writes f (suc k) v = f v.0 ++ writes f k v.1

-- and back, each of s words
unfoldable pub reads : {A : Type 0} → (List ℤ → A) → ℕ → (k : ℕ) → List ℤ → Vec A k
reads f s zero l = tt
reads f s (suc k) l = (f (take s l), reads f s k (drop s l))

-- a degree word, then k elements
abbrev pub degree_and : {A : Type 0} → (A → Bool) → (A → List ℤ) → (k : ℕ) → Vec A k → List ℤ
degree_and z f k v = degree_word (count (strip z k v)) ∷ writes f k v

abbrev pub behind_degree : {A : Type 0} → ℕ → (List ℤ → A) → (k : ℕ) → List ℤ → Vec A k
behind_degree s f k w = reads f s k (drop 1 w)

pub writes_long : {A : Type 0} (f : A → List ℤ) (s : ℕ) → ((x : A) → length (f x) ≡ s) → (k : ℕ) (v : Vec A k) → length (writes f k v) ≡ k * s
unfolding writes
writes_long f s h zero v = sym (zero-mul s)
writes_long f s h (suc k) v = omega (arith, length-append (f v.0) (writes f k v.1), h v.0, writes_long f s h k v.1, suc-mul k s)

module _ (p : ℕ) (d : List ℕ) where
  -- "An element of R_0 is one word"; "An element of R_i, i ≥ 1, is a degree word and then d_i elements of R_(i-1), lowest first."
  unfoldable pub write : (n : ℕ) → El p d n → List ℤ
  write zero x = pos x.0 ∷ []
  write (suc n) v = degree_and (is_zero p d n) (write n) (degree d n) v

  -- "A polynomial slot of k coefficients": a degree word from -1 to k - 1, then k elements
  abbrev pub slot : (n k : ℕ) → Vec (El p d n) k → List ℤ
  slot n k v = degree_and (is_zero p d n) (write n) k v

  pub write-zero : (x : El p d 0) → write 0 x ≡ pos x.0 ∷ []
  unfolding write
  write-zero x = refl

  pub write_suc : (n : ℕ) (v : El p d (suc n)) → write (suc n) v ≡ slot n (degree d n) v
  unfolding write
  write_suc n v = refl

  pub write_long : (n : ℕ) (x : El p d n) → length (write n x) ≡ size d n
  unfolding write size
  write_long zero x = refl
  write_long (suc n) v = omega (arith, writes_long (write n) (size d n) (write_long n) (degree d n) v)

  pub slot_long : (n k : ℕ) (v : Vec (El p d n) k) → length (slot n k v) ≡ 1 + k * size d n
  slot_long n k v = omega (arith, writes_long (write n) (size d n) (write_long n) k v)

-- and back: a residue is what the word holds modulo p
module _ (p : ℕ) (p_pos : 0 < p) (d : List ℕ) where
  unfoldable pub read : (n : ℕ) → List ℤ → El p d n
  read zero w = to_z p p_pos (num (get_or w 0 (pos 0)))
  read (suc n) w = behind_degree (size d n) (read n) (degree d n) w

  abbrev pub unslot : (n k : ℕ) → List ℤ → Vec (El p d n) k
  unslot n k w = behind_degree (size d n) (read n) k w

  -- "m_i is a degree word d_i and d_i + 1 elements of R_(i-1), the last of them 1"; "The tower's words are m_N first and m_1 last; none for N = 0."
  unfoldable pub tower_words : (n : ℕ) → Tower p d n → List ℤ
  tower_words zero t = []
  tower_words (suc n) t =
      (pos (degree d n) ∷ writes (write p d n) (suc (degree d n)) (topped (degree d n) t.1 (ring p p_pos d n t.0).𝟙)) ++ tower_words n t.0

  unfoldable pub tower_of : (n : ℕ) → List ℤ → Tower p d n
  tower_of zero w = tt
  tower_of (suc n) w = (tower_of n (drop (modulus_size d n) w), unslot n (degree d n) (take (modulus_size d n) w))

  pub tower_long : (n : ℕ) (t : Tower p d n) → length (tower_words n t) ≡ tower_size d n
  unfolding tower_words tower_size size
  tower_long zero t = refl
  tower_long (suc n) t =
      let v = topped (degree d n) t.1 (ring p p_pos d n t.0).𝟙 in
      omega (
        arith,
        length-append (pos (degree d n) ∷ writes (write p d n) (suc (degree d n)) v) (tower_words n t.0),
        tower_long n t.0,
        writes_long (write p d n) (size d n) (write_long p d n) (suc (degree d n)) v,
        suc-mul (degree d n) (size d n),
      )
