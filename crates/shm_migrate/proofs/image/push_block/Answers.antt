use Rattle.std.proofs.Common.{◌≡◌, ◌+◌, sym, ap, subst, ◌∙◌, arith}
use Rattle.shm_audit.specs.Images.{numbers}
use Rattle.shm_audit.proofs.Blocks.{block_end}
use Rattle.shm_migrate.specs.{Widened.{widened_body, widened_tag}, Writing.WritesOn}
use Rattle.shm_migrate.proofs.WordReading.{body_live}
use Rattle.shm_migrate.proofs.Writing.{body_here, body_written, class_above, head_written, tag_here, tag_written, writes_more}
use Rattle.shm_migrate.proofs.image.push_block.Goals as goal

pub live_tag-tag-requires-clause-tag : goal.live_tag-tag-requires-clause-tag
live_tag-tag-requires-clause-tag c = tag_here c.args.geometry (numbers c.args.words.now) c.requires.fits c.requires.narrow c.args.block c.args.class c.requires.is c.requires.class c.requires.is_class

pub loop-i-init : goal.loop-i-init
loop-i-init c =
    let g = c.args.geometry in
    let ws = numbers c.args.words.now in
    let b = c.args.block in
    let old = c.args.image.now.items in
    let head = writes_more g ws old old c.push_word.new.image.items (b + g.clients) (b + g.clients) (b + 1 + g.clients) c.word.result (λ start w. w) (omega arith)
    (head_written g ws c.requires.fits c.requires.narrow b c.args.class c.requires.is c.requires.class c.requires.is_class c.word.result c.word.ensures) (let t = c.word.type_inv in omega arith) c.in_ok-push_word.ensures in
    writes_more g ws old c.push_word.new.image.items c.push_word-2.new.image.items (b + g.clients) (b + 1 + g.clients) (b + 2 + 0 + g.clients) c.widened_tag.result head (omega arith)
    (tag_written g ws c.requires.fits c.requires.narrow b c.args.class c.requires.is c.requires.class c.requires.is_class c.widened_tag.result (c.widened_tag.ensures ∙ ap widened_tag c.live_tag-tag.ensures.says)) (let t = c.widened_tag.type_inv in omega arith) c.in_ok-push_word-2.ensures

pub widened_body-requires-clause-live : goal.widened_body-requires-clause-live
widened_body-requires-clause-live c =
    let g = c.args.geometry in
    let ws = numbers c.args.words.now in
    let b = c.args.block in
    let l = c.loop-i-test.true in
    let e : b + 2 + c.from.result ≡ b + 2 + c.loop-i.i = ap (λ n. b + 2 + n) c.from.ensures in
    let m = block_end g ws b c.args.class (record { is = c.requires.is; class = c.requires.class; sized = c.requires.is_class }) in
    body_live g ws c.requires.clean (b + 2 + c.loop-i.i) b c.loop-i.i c.word-word.result c.live_tag-tag.result (omega arith)
    (body_here g ws c.requires.fits c.requires.narrow b c.args.class c.requires.is c.requires.class c.requires.is_class c.loop-i.i (omega arith)) (rw (sym e) c.word-word.ensures) c.live_tag-tag.ensures.says

pub loop-i-preserved : goal.loop-i-preserved
loop-i-preserved c =
    let g = c.args.geometry in
    let ws = numbers c.args.words.now in
    let b = c.args.block in
    let i = c.loop-i.i in
    let l = c.loop-i-test.true in
    let e : b + 2 + c.from.result ≡ b + 2 + i = ap (λ n. b + 2 + n) c.from.ensures in
    let word : c.widened_body.result ≡ widened_body g _ i c.word-word.result = c.widened_body.ensures ∙ ap (λ o. widened_body g o i c.word-word.result) c.live_tag-tag.ensures.says in
    writes_more g ws c.args.image.now.items c.loop-i.image.items c.push_word-in-loop-i.new.image.items (b + g.clients) (b + 2 + i + g.clients) (b + 2 + (i + 1) + g.clients) c.widened_body.result c.loop-i.invariant (omega arith)
    (body_written g ws c.requires.fits c.requires.narrow b c.args.class c.requires.is c.requires.class c.requires.is_class i c.word-word.result c.widened_body.result (omega arith) (rw (sym e) c.word-word.ensures) word) (let t = c.widened_body.type_inv in omega arith) c.in_ok-push_word-3.ensures

pub returns : goal.returns
returns c =
    let g = c.args.geometry in
    let a = class_above c.args.class c.requires.is_class in
    let e : c.args.block + 2 + c.loop-i.i + g.clients ≡ c.args.block + c.args.class + g.clients = omega (arith, c.loop-i-test.false, c.loop-i.auto.i-end) in
    subst (WritesOn g (numbers c.args.words.now) c.args.image.now.items c.loop-i.image.items (c.args.block + g.clients)) e c.loop-i.invariant
