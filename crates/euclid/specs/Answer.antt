-- The three answers of a sequence: done, something shown in place of an answer, or number 11 (more than D + 2 remainders).
--
-- bind  == to go on with what is done: what is shown ends everything above it;  map, lift == to rename what is done, what is shown
-- Holds == what is done has P, what is shown has Q, and number 11 is not given
use Rattle.std.specs.Prelude.{◌≡◌, refl}

pub data Answer (F A : Type 0) : Type 0 where
  done : A → Answer F A
  shown : F → Answer F A
  long : Answer F A

-- a factor met ends everything above it
abbrev pub bind : {F A B : Type 0} → Answer F A → (A → Answer F B) → Answer F B
bind (done a) k = k a
bind (shown f) k = shown f
bind long k = long

abbrev pub map : {F A B : Type 0} → (A → B) → Answer F A → Answer F B
map k (done a) = done (k a)
map k (shown f) = shown f
map k long = long

abbrev pub lift : {F G A : Type 0} → (F → G) → Answer F A → Answer G A
lift k (done a) = done a
lift k (shown f) = shown (k f)
lift k long = long

pub bind_done : {F A : Type 0} (m : Answer F A) → bind m done ≡ m
bind_done (done a) = refl
bind_done (shown f) = refl
bind_done long = refl

-- what is done has P, what is shown has Q, and number 11 is never given
abbrev pub Holds : {F A : Type 0} → (F → Type 0) → (A → Type 0) → Answer F A → Type 0
Holds Q P (done a) = P a
Holds Q P (shown f) = Q f
Holds Q P long = ⊥

module _ {F : Type 0} (Q : F → Type 0) where
  pub holds_bind : {A B : Type 0} (P : A → Type 0) (P' : B → Type 0) (m : Answer F A) (k : A → Answer F B)
      → Holds Q P m → ((a : A) → P a → Holds Q P' (k a)) → Holds Q P' (bind m k)
  holds_bind P P' (done a) k h g = g a h
  holds_bind P P' (shown f) k h g = h
  holds_bind {A = A} {B = B} P P' long k h g = elim h [ ]

  pub holds_map : {A B : Type 0} (P : A → Type 0) (P' : B → Type 0) (m : Answer F A) (k : A → B)
      → Holds Q P m → ((a : A) → P a → P' (k a)) → Holds Q P' (map k m)
  holds_map P P' (done a) k h g = g a h
  holds_map P P' (shown f) k h g = h
  holds_map {A = A} {B = B} P P' long k h g = elim h [ ]

  pub holds_weaken : {A : Type 0} (P P' : A → Type 0) (m : Answer F A) → Holds Q P m → ((a : A) → P a → P' a) → Holds Q P' m
  holds_weaken P P' (done a) h g = g a h
  holds_weaken P P' (shown f) h g = h
  holds_weaken {A = A} P P' long h g = elim h [ ]

  pub holds_both : {A : Type 0} (P P' : A → Type 0) (m : Answer F A) → Holds Q P m → Holds Q P' m → Holds Q (λ a. P a × P' a) m
  holds_both P P' (done a) h k = (h, k)
  holds_both P P' (shown f) h k = h
  holds_both {A = A} P P' long h k = elim h [ ]

  pub holds_lift : {G A : Type 0} (P : A → Type 0) (Q' : G → Type 0) (k : F → G) (m : Answer F A) → Holds Q P m → ((f : F) → Q f → Q' (k f)) → Holds Q' P (lift k m)
  holds_lift P Q' k (done a) h g = h
  holds_lift P Q' k (shown f) h g = g f h
  holds_lift {G = G} {A = A} P Q' k long h g = elim h [ ]

  -- where nothing can be shown, it is done
  pub holds_done : {A : Type 0} (P : A → Type 0) (m : Answer F A) → Holds Q P m → ((f : F) → ¬ Q f) → (a : A) × (m ≡ done a) × P a
  holds_done P (done a) h no_such = (a, refl, h)
  holds_done P (shown f) h no_such = absurd (no_such f h)
  holds_done {A = A} P long h no_such = elim h [ ]
