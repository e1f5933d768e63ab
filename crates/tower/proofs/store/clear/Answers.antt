-- `store::clear` meets its contract: n words 0 are n copies of one.
use Rattle.std.proofs.Common.{rules, ◌≡◌, ◌∙◌, ℕ, ap, replicate, arith}
use Rattle.std.proofs.lemmas.Grind.{common_steps}
use Rattle.tower.proofs.Puts.{copies_word}
use lib.IntN.{pos}
use Rattle.tower.proofs.store.clear.Goals as goal

pub returns : goal.returns
returns c =
    let filled : c.fill.new.self ≡ replicate c.args.n (pos 0) = c.fill.ensures.after (λ y h. search rules) ∙ ap (λ (k : ℕ). replicate k (pos 0)) (grind (arith, common_steps)) in
    rw (copies_word c.args.n (pos 0)) (grind (arith, common_steps))
