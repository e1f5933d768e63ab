use Rattle.std.proofs.Common.{◌≡◌, sym, ap, subst, ◌∙◌, ◌^◌, arith, ◌<◌, nat_abs, pos, w64, to_z, of_z}
use Rattle.std.proofs.Math.Facts.{to_z_pos, to_z-of_z}
use Rattle.std.specs.Int.{int_rem_euclid}
use Rattle.residue.specs.Number.{Below}
use Rattle.residue.specs.Word.{mod_z}
use Rattle.residue.proofs.Laws.{euclid_mod}
use Rattle.residue.proofs.residue_of.Goals as goal

pub returns : goal.returns
returns c =
    let h : c.args.p < 2 ^ 63 = omega (arith, c.requires.narrow) in
    let e : c.rem_euclid.result ≡ int_rem_euclid (to_z w64 (of_z w64 c.args.n)) (pos c.args.p) =
    c.rem_euclid.ensures.value ∙ ap (int_rem_euclid (to_z w64 (of_z w64 c.args.n))) (to_z_pos w64 h) in
    let f : c.rem_euclid.result ≡ int_rem_euclid c.args.n (pos c.args.p) = e ∙ ap (λ x. int_rem_euclid x (pos c.args.p)) (to_z-of_z c.ranges.n) in
    subst (λ x. Below c.args.p (mod_z c.args.n c.args.p) (nat_abs x)) (sym (to_z-of_z {w = w64} {z = c.rem_euclid.result} (record { sfits = c.rem_euclid.type_inv }))) (euclid_mod c.args.n c.args.p _ c.requires.positive f)
