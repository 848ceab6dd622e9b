-- One clock by itself, with a cap on its rate: a graph whose states are the clock's codes.
--   under_cap     whether a code's rate is at most the cap
--   clock_graph   the graph
use Rattle.std.specs.Prelude.{ℕ, Bool, ◌&&◌, nat_le, nat_lt}
use Rattle.device.specs.Device.{Device}
use Rattle.search.specs.Graphs.{GraphModel}

-- a code that the clock has, with a rate of at most the cap
abbrev pub under_cap : Device → ℕ → ℕ → Bool
under_cap d most c = nat_lt c d.count && nat_le (d.level c) most

-- lawful codes are those under the cap, and one write of the clock joins two of them
abbrev pub clock_graph : Device → ℕ → GraphModel
clock_graph d most = record {
  states = d.count;
  lawful = under_cap d most;
  joined = λ a b. d.linked a b && (under_cap d most a && under_cap d most b);
}
