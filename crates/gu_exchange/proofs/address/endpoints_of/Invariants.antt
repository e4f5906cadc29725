use Rattle.std.proofs.Common.{◌≡◌, ◌++◌, length}
use Rattle.std.specs.List.{AllByRecursion}
use Rattle.gu_etcd.specs.InMemory.{log_of}
use Rattle.gu_exchange.specs.Addresses.{between_commas}
use Rattle.gu_exchange.specs.Endpoints.{IsEndpoint}
use Rattle.gu_exchange.proofs.address.endpoints_of.Given as goal

-- the endpoints so far, and the texts of what is left, are those of the whole text
abbrev pub invariant-loop-first : goal.invariant-loop-first
invariant-loop-first l = record {
  listed : between_commas l.text ≡ log_of l.endpoints.items ++ between_commas l.rest;
  each : AllByRecursion IsEndpoint (log_of l.endpoints.items);
}

abbrev pub decreases-loop-first : goal.decreases-loop-first
decreases-loop-first l = length l.rest
