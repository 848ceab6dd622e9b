use Rattle.std.proofs.Common.{◌≡◌, ◌++◌, map, drop, vec_items}
use Rattle.listing.specs.Parts.{part_figures}
use Rattle.bench.specs.Listing.{part_lines}
use Rattle.bench.proofs.levels.add_parts.Given as goal

-- the lines so far and those of the parts that are left
abbrev pub invariant-parts : goal.invariant-parts
invariant-parts l = vec_items l.lines ++ part_lines l.number (map part_figures (drop l.number l.parts)) ≡ vec_items l.initial.lines ++ part_lines 0 (map part_figures l.parts)
