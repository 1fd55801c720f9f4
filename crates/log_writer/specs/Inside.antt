-- What the writer's log keeps beside its groups.
use Rattle.std.specs.Prelude.{◌≡◌, ℕ, ◌+◌, ◌<◌, ◌^◌, List, length}
use Rattle.log_writer.specs.declared.logged.Logged.{Logged}
use Rattle.tm_data.specs.declared.transaction.Writer.{Writer}
use Rattle.log_writer.specs.Log.{reached, InOrder}

pub record IsKept (writer : Writer) (gone gone_stamp : ℕ) (groups : List Logged) (first second third : ℕ) : Type 0 where
  -- the groups are the writer's, numbered without gaps after those that were let go, and their stamps rise
  pub order : InOrder writer (gone + 1) gone_stamp groups
  -- each number fits 32 bits
  pub short : gone + length groups < 2 ^ 32
  pub first_is : first ≡ reached groups 1
  pub second_is : second ≡ reached groups 2
  pub third_is : third ≡ reached groups 3
