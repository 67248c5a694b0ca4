-- What a run of a script leaves, of the parts that the run is made of.
use Rattle.std.proofs.Common.{◌≡◌, ℕ, ◌^◌, ◌≤◌, Bool, List, sym, subst, arith}
use Rattle.std.specs.{Prelude.{Option, None, Some, IfSome, unwrap_or}, Option.is_some}
use Rattle.shm_tree.specs.{declared.line.TreeLine.TreeLine, ForestCalls.{IsClosedForest, IsFirstForest}}
use Rattle.shm_tree.specs.{Forests.{Forested, HasVersions}, Scripts.TreeScripted, ScriptTexts.IsScript, Trees.Tree}
use Rattle.shm_versions.specs.declared.treed.{Holding.Holding, Treed.Treed}
use Rattle.shm_versions.specs.TreeRuns.{ForestHolds, IsEnding, IsPlayed, IsTreeRun, first_versions, life_of}
use Rattle.shm_versions.proofs.{Plays.lines_versions, Rooms.{played_room, played_unspent}}

life_low : (o : Option ℕ) → IfSome o (λ n. (1 ≤ n) × (n ≤ 2 ^ 40)) → unwrap_or o (2 ^ 40) ≤ 2 ^ 40
life_low None w = omega arith
life_low (Some n) w = w.1

pub script_low : (s : TreeScripted) → IsScript s → life_of s ≤ 2 ^ 40
script_low s w = life_low s.life w.life

-- the forest that was asked is the one behind the last line
held_last : (o : Option Holding) (rest : List TreeLine) (last final : Forested) (left : ℕ) (ts : List Tree) → IsEnding (is_some o) rest last final left → HasVersions last.registers ts → ((us : List Tree) → HasVersions final.registers us → IfSome o (ForestHolds final us)) → IfSome o (ForestHolds last ts)
held_last None rest last final left ts w has holds = tt
held_last (Some h) rest last final left ts w has holds =
    subst (λ (f : Forested). ForestHolds f ts h) w.same (holds ts (subst (λ (f : Forested). HasVersions f.registers ts) (sym w.same) has))

pub tree_run : (s : TreeScripted) (r : Treed) (n : ℕ) (ls : List TreeLine) (first final : Forested) (x : ℕ) (whole : Bool) → IsScript s → n ≡ s.segments → ls ≡ s.lines → x ≡ life_of s → is_some r.holding ≡ whole → IsFirstForest n first → IsPlayed ls r.answers.items first x final whole → ((ts : List Tree) → HasVersions final.registers ts → IfSome r.holding (ForestHolds final ts)) → IsClosedForest final r.closed → IsTreeRun s r
tree_run s r n ls first final x whole script segments lines life is made played holds closed =
    let first_made : IsFirstForest s.segments first = subst (λ (m : ℕ). IsFirstForest m first) segments made in
    let of : IsPlayed s.lines r.answers.items first x final whole = subst (λ (us : List TreeLine). IsPlayed us r.answers.items first x final whole) lines played in
    let from : IsPlayed s.lines r.answers.items first (life_of s) final whole = subst (λ (m : ℕ). IsPlayed s.lines r.answers.items first m final whole) life of in
    let ran : IsPlayed s.lines r.answers.items first (life_of s) final (is_some r.holding) = subst (λ (b : Bool). IsPlayed s.lines r.answers.items first (life_of s) final b) (sym is) from in
    let behind = lines_versions ran.done r.answers.items first ran.last (life_of s) ran.left first_versions ran.ran first_made.empty in
    record {
      first = first;
      made = first_made;
      final = final;
      played = ran;
      versions = behind.0;
      answered = behind.1;
      holding = held_last r.holding ran.rest ran.last final ran.left _ ran.ending behind.0 holds;
      roomy = played_unspent s.segments s.lines r.answers.items first final (life_of s) (is_some r.holding) first_made (script_low s script) ran;
      unspent = played_room s.segments s.lines r.answers.items first final (life_of s) (is_some r.holding) first_made (script_low s script) ran;
      closed = closed;
    }
