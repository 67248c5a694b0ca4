use Rattle.std.proofs.Common.{◌≡◌, ◌+◌, ◌-◌, ◌<◌, ◌≤◌, sym, ap, ◌∙◌, arith}
use Rattle.shm_words.specs.Layout.{more, more_of, total_of}
use Rattle.shm_graph.specs.Spots.{see}
use Rattle.shm_audit.specs.Images.{numbers}
use Rattle.shm_migrate.specs.Widened.{widened_word}
use Rattle.shm_migrate.proofs.{Places.front, Formats.further_word, WordReading.{spare_word, status_word, redo_word}}
use Rattle.shm_migrate.proofs.words.widened_word.Goals as goal

pub returns-then-at-eq0 : goal.returns-then-at-eq0
returns-then-at-eq0 c = sym (spare_word c.args.geometry (see c.args.geometry (numbers c.args.words.now)) c.args.at c.if-at-eq0.true)

pub returns-then-at-clients : goal.returns-then-at-clients
returns-then-at-clients c =
    let e = c.clients.ensures in
    let d = c.from-clients.ensures in
    let l = c.if-at-clients.true in
    let s = c.requires.fits.segment in
    c.word.ensures ∙ sym (status_word c.args.geometry (numbers c.args.words.now) c.args.at c.if-at-eq0.false (omega arith) (omega arith))

pub returns-then-at-clients-2 : goal.returns-then-at-clients-2
returns-then-at-clients-2 c =
    let e = c.clients.ensures in
    let d = c.from-clients.ensures in
    let l = c.if-at-clients.false in
    let m = c.if-at-clients-2.true in
    sym (redo_word c.args.geometry (see c.args.geometry (numbers c.args.words.now)) c.args.at (omega arith) (omega arith))

pub returns-else-at-clients-2 : goal.returns-else-at-clients-2
returns-else-at-clients-2 c =
    let g = c.args.geometry in
    let ws = numbers c.args.words.now in
    let e = c.clients.ensures in
    let d = c.from-clients.ensures in
    let m = c.if-at-clients-2.false in
    let r = c.requires.range in
    let o = c.requires.narrow in
    let x : c.args.at - c.from-clients.result + g.clients ≡ c.args.at = omega arith in
    let b : front g.clients ≤ c.args.at - c.from-clients.result = omega arith in
    let k : more g ≡ 0 = ap (λ wide. more_of wide g.clients) o in
    let t : c.args.at - c.from-clients.result < total_of g = omega arith in
    c.widened_at.ensures ∙ (sym (further_word g ws c.requires.fits o (c.args.at - c.from-clients.result) b t) ∙ ap (widened_word g (see g ws)) x)
