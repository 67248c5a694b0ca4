use Rattle.std.proofs.Common.{◌<◌, below_more, get_or, length, not, sym, ap, ◌∙◌, arith}
use Rattle.shm_words.specs.Layout.{address}
use Rattle.shm_graph.specs.Spots.{see}
use Rattle.shm_audit.specs.{Images.numbers, Verdicts.{is_pending, is_settled}}
use Rattle.shm_audit.proofs.{Fronts.{from_word, numbers_length}, Least.{none_below, some_below}, Tested.status_word}
use Rattle.shm_audit.proofs.checks.first_pending.Goals as goal

pub returns-then-not-is_settled : goal.returns-then-not-is_settled
unfolding address
returns-then-not-is_settled c = λ ws from.
    let g = c.args.geometry in
    let l : c.loop-c.c < g.clients = (let m = c.loop-c-test.true in let e = c.clients-c-end.ensures in omega arith) in
    let n = numbers_length c.args.front.now in
    let k : c.status.result < length (numbers c.args.front.now) = (let s = c.status.ensures in let h = c.requires.whole in omega arith) in
    let w = from_word ws (numbers c.args.front.now) 0 c.status.result c.status.result from k (omega arith) in
    let s = status_word g ws c.loop-c.c c.requires.fits l ∙ (ap (λ a. get_or ws a 0) (sym c.status.ensures) ∙ (w ∙ sym c.word.ensures)) in
    sym (some_below g.clients (is_pending (see g ws)) c.loop-c.c l (ap (λ x. not (is_settled x)) s ∙ ap not (sym c.is_settled.ensures ∙ c.if-not-is_settled.true)) (c.loop-c.invariant ws from))

pub loop-c-preserved : goal.loop-c-preserved
unfolding address
loop-c-preserved c = λ ws from.
    let g = c.args.geometry in
    let l : c.loop-c.c < g.clients = (let m = c.loop-c-test.true in let e = c.clients-c-end.ensures in omega arith) in
    let n = numbers_length c.args.front.now in
    let k : c.status.result < length (numbers c.args.front.now) = (let s = c.status.ensures in let h = c.requires.whole in omega arith) in
    let w = from_word ws (numbers c.args.front.now) 0 c.status.result c.status.result from k (omega arith) in
    let s = status_word g ws c.loop-c.c c.requires.fits l ∙ (ap (λ a. get_or ws a 0) (sym c.status.ensures) ∙ (w ∙ sym c.word.ensures)) in
    below_more _ _ (c.loop-c.invariant ws from) (ap (λ x. not (is_settled x)) s ∙ ap not (sym c.is_settled.ensures ∙ c.if-not-is_settled.false))

pub returns : goal.returns
returns c = λ ws from. sym (none_below c.args.geometry.clients (is_pending (see c.args.geometry ws)) (λ a l. c.loop-c.invariant ws from a (let m = c.loop-c-test.false in let e = c.clients-c-end.ensures in omega arith)))
