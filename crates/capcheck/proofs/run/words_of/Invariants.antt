use Rattle.std.proofs.Common.{◌≡◌, map, take, string_bytes}
use Rattle.capcheck.proofs.run.words_of.Given as goal

abbrev pub invariant-loop-word : goal.invariant-loop-word
invariant-loop-word l = map (λ w. w.now) l.words.items ≡ map string_bytes (take l.word-index l.after_name)
