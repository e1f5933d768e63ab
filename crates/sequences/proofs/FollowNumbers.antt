-- Laws of a turn's end at level 0: the remainder's leading number is inverted itself, and not its product with the dividend's inverse.
--
-- numbers_ask    == what the inverse of the number asks for
-- numbers_follow == what it leaves is what a turn's end leaves
use Prim.Native.Nat.{ℕ, zero, suc, ◌+◌, ◌-◌, ◌*◌, ◌<◌, ◌≤◌}
use native.Mathlib.Nat.{lt_irrefl}
use native.Mathlib.Omega.{arith}
use mathlib.Core.Path.{◌≡◌, refl, ap, sym, ◌∙◌, subst}
use mathlib.Core.Bool.{Bool}
use mathlib.Core.Logic.{◌⊎◌, inl, inr}
use mathlib.Core.List.{List}
use lib.IntN.{ℤ, pos}
use lib.ListN.{length, get_or}
use Rattle.algebra.specs.Zmod.{Residue}
use Rattle.residue.specs.Word.{num}
use Rattle.tower.specs.Form.{seg}
use Rattle.tower.specs.Levels.{El, Tower, ring}
use Rattle.tower.specs.Stands.{Stands}
use Rattle.tower.specs.Store.{Kept, put-seg, put-set}
use Rattle.tower.specs.Work.{inverse_work}
use Rattle.tower.specs.Writing.{size, size-zero}
use Rattle.arithmetic.specs.Rows.{Top, word_of}
use Rattle.products.proofs.Frames.{worked-answer}
use Rattle.products.proofs.Lowests.{residue_stands}
use Rattle.euclid.specs.Answer.{Answer, done, shown, long, map}
use Rattle.euclid.specs.Number.{inverse₀-times}
use Rattle.euclid.specs.Shown.{shown_words}
use Rattle.std.specs.Prelude.{Result, Ok}
use Rattle.sequences.specs.declared.Stop.{Stop}
use Rattle.sequences.specs.Outcomes.{FollowReady, FollowDone, Follows, Besides}
use Rattle.sequences.specs.Starts.{FollowNumberReady, Follows₀, FollowNumberDone}
use Rattle.sequences.proofs.FollowLaws.{Before, now, leading, answer, at_stands, followed, found, some}
use Rattle.sequences.proofs.NumberLaws.{held_of}
use Rattle.sequences.proofs.PlaceLaws.{besides_left, besides_right}

-- the answer q, times u where it is an inverse, was written: that is how a turn ends whose inverse's answer is q
follows_up : (p : ℕ) (p_pos : 0 < p) (d : List ℕ) (t : Tower p d 0) (u : El p d 0) {k : ℕ} (g : ℕ) → k ≡ suc g → (q : Answer ℕ (Residue p)) (o : Result ℕ Stop) (w v : List ℤ)
    (free unit : ℕ) → free < length w → unit < length w → Follows₀ p (map (λ j. (ring p p_pos d 0 t).◌⊗◌ j u) q) k free unit o w v
    → Follows p p_pos d 0 t u g q o v free unit
unfolding shown_words
follows_up p p_pos d t u g ek (done j) o w v free unit lf lu h =
    (h.0 ∙ ap Ok ek, subst (λ y. Stands p d 0 ((ring p p_pos d 0 t).◌⊗◌ j u) y unit) (sym h.1) (residue_stands p d _ w unit _ lu refl))
follows_up p p_pos d t u g ek (shown f) o w v free unit lf lu h =
    (h.0, ap (seg free (size d 0)) h.1 ∙ put-seg (size d 0) (sym (size-zero d)) (put-set w free (pos f) lf))
follows_up p p_pos d t u g ek long o w v free unit lf lu h = absurd h

module _ {d z : List ℕ} {p : ℕ} {e : List ℤ} {e-in : Bool} {ea row n unit : ℕ} {w : List ℤ} {top k : ℕ} where
  module _ (r : FollowReady 0 d z p e e-in ea row n unit w top) (told : Top 0 n (size d 0) w (row - 1 + 1) k) (other : ¬ (k ≡ 0)) (few : k ≤ n) where
    -- numbers stand word by word
    place : row + (k - 1) * size d 0 ≡ row + (k - 1)
    place = omega (arith, ap (λ y. (k - 1) * y) (size-zero d))

    above : row + n ≡ row + n * size d 0
    above = omega (arith, ap (λ y. n * y) (size-zero d))

    unit_in : unit < length w
    unit_in = omega (arith, size-zero d, r.unit_below, r.room)

    free_in : row + n < length w
    free_in = omega (arith, ap (λ y. (n + 1) * y) (size-zero d), r.row_below, r.room)

    -- the leading number
    stands : (b : Before r) → Stands p d 0 (leading r told other few b).c w (row + (k - 1))
    stands b = subst (Stands p d 0 (leading r told other few b).c w) place (at_stands r told other few b)

    number_asks : FollowNumberReady p row n k unit w
    number_asks = record {
      modulus = r.modulus;
      two = r.two;
      some = omega (arith, other);
      number = held_of p d (leading r told other few (now r)).c w (row + (k - 1)) r.modulus (omega (arith, free_in, few)) (stands (now r));
      unit_inside = unit_in;
      free_inside = free_in;
    }

    number_follows : {v : List ℤ} (o : Result ℕ Stop) → FollowNumberDone p row n k unit w v o → FollowDone 0 d p e e-in ea row n unit w v top o
    number_follows {v} o h = followed r told other few o each (frame h.frame)
      where
        each : (b : Before r) → Follows p b.p_pos d 0 b.t b.u (leading r told other few b).m (answer r told other few b) o v (row + n * size d 0) unit
        each b =
            let l = leading r told other few b in
            subst (λ y. Follows p b.p_pos d 0 b.t b.u l.m (answer r told other few b) o v y unit) above
            (follows_up p b.p_pos d b.t b.u l.m l.counts (answer r told other few b) o w v (row + n) unit free_in unit_in
            (subst (λ q. Follows₀ p q k (row + n) unit o w v) (inverse₀-times p b.p_pos b.u b.back l.c b.is_unit l.some_c)
            (h.done b.p_pos l.c (ap num (word_of p d l.c w (row + (k - 1)) (stands b))) l.some_c)))

        frame : Kept unit 1 w v ⊎ Kept (row + n) 1 w v → Besides (row + n * size d 0) unit (size d 0) top (inverse_work d 0) w v
        frame (inl f) = besides_right {l = inverse_work d 0} (omega arith) (worked-answer r.unit_below (subst (λ y. Kept unit y w v) (sym (size-zero d)) f))
        frame (inr f) =
            besides_left {l = inverse_work d 0} (omega arith)
            (worked-answer (omega (arith, ap (λ y. (n + 1) * y) (size-zero d), above, size-zero d, r.row_below))
            (subst (λ y. Kept y (size d 0) w v) above (subst (λ y. Kept (row + n) y w v) (sym (size-zero d)) f)))

  -- ---- in the words of the code
  pub numbers_ask : {i : ℕ} → i ≡ 0 → FollowReady i d z p e e-in ea row n unit w top → {s : ℕ} → s ≡ get_or z i 0 → Top i n s w (row - 1 + 1) k × (k ≤ n) → 0 < k
      → FollowNumberReady p row n k unit w
  numbers_ask {i = suc i} ei r es told more = absurd (lt_irrefl 0 (omega arith))
  numbers_ask {i = zero} ei r es told more = number_asks r (found r es told) (some r es told more) told.1

  pub numbers_follow : {i : ℕ} → i ≡ 0 → FollowReady i d z p e e-in ea row n unit w top → {s : ℕ} → s ≡ get_or z i 0 → Top i n s w (row - 1 + 1) k × (k ≤ n) → 0 < k
      → {v : List ℤ} (o : Result ℕ Stop) → FollowNumberDone p row n k unit w v o → FollowDone i d p e e-in ea row n unit w v top o
  numbers_follow {i = suc i} ei r es told more o h = absurd (lt_irrefl 0 (omega arith))
  numbers_follow {i = zero} ei r es told more o h = number_follows r (found r es told) (some r es told more) told.1 o h
