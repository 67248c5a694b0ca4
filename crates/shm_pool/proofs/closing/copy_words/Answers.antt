use Rattle.std.proofs.Common.{◌≡◌, ℕ, zero, suc, List, [], ◌∷◌, ◌<◌, ◌≤◌, length, get_or, set, sym, ap, ◌∙◌, subst, arith, length-set}
use Rattle.std.proofs.lemmas.List.{ext_get_or, get_or-set_same, get_or-set_other}
use Rattle.std.specs.Mem.Slots.{slots_items, slots_counts}
use mathlib.Core.Logic.{dite}
use mathlib.Core.Option.{some, some-injective, some-ne-none}
use lib.ListN.{get_elem?}
use native.Mathlib.Decide.{ℕ_discrete}
use Rattle.shm_pool.proofs.closing.copy_words.Goals as goal

read : (l : List ℕ) (i : ℕ) (a d : ℕ) → get_elem? l i ≡ some a → get_or l i d ≡ a
read [] i a d e = absurd (some-ne-none a (sym e))
read (x ∷ xs) zero a d e = some-injective x a e
read (x ∷ xs) (suc i) a d e = read xs i a d e

pub loop-i-preserved : goal.loop-i-preserved
loop-i-preserved c = let ws : List ℕ = c.loop-i.words.items in let i : ℕ = c.loop-i.i in let v : ℕ = c.word.result in let inv = c.loop-i.invariant in
    let lt : i < c.len-i-end.result = c.loop-i-test.true in let n : c.len-i-end.result ≡ length c.args.words.now.items = c.len-i-end.ensures ∙ c.args.words.now.ok.0 in
    let inside : i < length ws = subst (λ (z : ℕ). i < z) (n ∙ sym inv.0) lt in (
      length-set ws i v ∙ inv.0,
      λ k l. dite (ℕ_discrete k i)
          (λ e. ap (λ (z : ℕ). get_or (set ws i v) z 0) e ∙ (get_or-set_same ws i v 0 inside ∙ (sym (read (slots_items c.args.last.now.words) i v 0 c.word.ensures) ∙ ap (λ (z : ℕ). get_or (slots_items c.args.last.now.words) z 0) (sym e))))
          (λ ne. get_or-set_other ws i k v 0 ne ∙ inv.1 k (omega arith)),
    )

pub returns : goal.returns
returns c = let ws : List ℕ = c.loop-i.words.items in let inv = c.loop-i.invariant in let over : c.len-i-end.result ≤ c.loop-i.i = c.loop-i-test.false in let n : c.len-i-end.result ≡ length c.args.words.now.items = c.len-i-end.ensures ∙ c.args.words.now.ok.0 in
    let same : length ws ≡ length (slots_items c.args.last.now.words) = inv.0 ∙ (c.requires.1 ∙ (slots_counts c.args.last.now.words).0) in
    ext_get_or 0 ws (slots_items c.args.last.now.words) same (λ k l. inv.1 k (let a : length ws ≡ length c.args.words.now.items = inv.0 in omega arith))
