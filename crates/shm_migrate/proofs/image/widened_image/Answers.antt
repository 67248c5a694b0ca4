use Rattle.std.proofs.Common.{◌≡◌, ℕ, codes, ◌++◌, List, map, ap, subst, ◌∙◌, arith}
use Rattle.std.specs.{List.{flat_map, range_with_len}, Int.{w64, to_le_bytes}}
use Rattle.shm_words.specs.Layout.{total_of}
use Rattle.shm_graph.specs.Spots.{see}
use Rattle.shm_audit.specs.Images.{numbers}
use Rattle.shm_migrate.specs.{Widened.{wide_of, widened_word, widened}, Writing.IsWritten}
use Rattle.shm_migrate.proofs.{Widening.widened_small, Writing.whole}
use Rattle.shm_migrate.proofs.image.widened_image.Goals as goal

pub loop-page-init : goal.loop-page-init
loop-page-init c = λ start w. subst (IsWritten c.args.geometry (numbers c.args.words.now) start c.push_front.new.image.items) (omega arith) w

pub loop-page-preserved : goal.loop-page-preserved
loop-page-preserved c = λ start w. c.in_ok-push_page.ensures start (c.loop-page.invariant start w)

pub returns-clause-bytes : goal.returns-clause-bytes
unfolding widened
returns-clause-bytes c =
    let g = c.args.geometry in
    let f = widened_word g (see g (numbers c.args.words.now)) in
    let clients : c.from-2.result ≡ g.clients = c.from-2.ensures ∙ c.clients-2.ensures in
    let segments : c.from-3.result ≡ g.segments = c.from-3.ensures ∙ c.segments.ensures in
    let start =
    c.in_ok-push_word-2.ensures
    ∙ (ap (λ (xs : List ℕ). xs ++ to_le_bytes w64 c.from-3.result) (c.in_ok-push_word.ensures
    ∙ ap (λ (xs : List ℕ). xs ++ to_le_bytes w64 c.from-2.result) (c.in_ok-push_text.ensures.ok ∙ ap (λ (xs : List ℕ). xs ++ codes "CXLSHM02") c.in_ok-image.ensures.items))
    ∙ (ap (λ (n : ℕ). (codes "CXLSHM02" ++ to_le_bytes w64 n) ++ to_le_bytes w64 c.from-3.result) clients
    ∙ ap (λ (n : ℕ). (codes "CXLSHM02" ++ to_le_bytes w64 g.clients) ++ to_le_bytes w64 n) segments)) in
    let w = whole g (numbers c.args.words.now) c.push_word-2.new.image.items c.push_front.new.image.items c.loop-page.image.items c.loop-page.page c.requires.narrow (omega (arith, c.loop-page-test.false, c.loop-page.auto.page-end, c.from-page-end.ensures, c.segments-2.ensures)) c.in_ok-push_front.ensures c.loop-page.invariant in
    w.items
    ∙ ap (λ (xs : List ℕ). xs ++ flat_map (to_le_bytes w64) (map f (range_with_len 0 (total_of (wide_of g))))) start

pub returns-clause-small : goal.returns-clause-small
returns-clause-small c =
    let g = c.args.geometry in
    let w = whole g (numbers c.args.words.now) c.push_word-2.new.image.items c.push_front.new.image.items c.loop-page.image.items c.loop-page.page c.requires.narrow (omega (arith, c.loop-page-test.false, c.loop-page.auto.page-end, c.from-page-end.ensures, c.segments-2.ensures)) c.in_ok-push_front.ensures c.loop-page.invariant in
    widened_small g (numbers c.args.words.now) w.small
