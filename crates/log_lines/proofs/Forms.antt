-- Each line begins with the word of a form.
use Rattle.std.proofs.Common.{refl}
use Rattle.iox2_container.specs.declared.container.handle.Role.{Role}
use Rattle.iox2_container.specs.declared.container.handle.Role.TheVariants as role
use Rattle.service_descriptions.specs.declared.replay.machine.command.Cleanup.TheVariants.{ByPort}
use Rattle.service_descriptions.specs.declared.replay.machine.command.Command.{Command}
use Rattle.service_descriptions.specs.declared.replay.machine.command.Command.TheVariants as command
use Rattle.service_descriptions.specs.Lines.{HasLine, line_of}
use Rattle.log_lines.specs.Commands.{Begun, HasBegun, begun_text}
use Rattle.log_lines.specs.Commands.Begun.{command as does, weak}
use Rattle.log_lines.specs.Commands.NamedCommand.{numbered, deregister, release}
use Rattle.log_lines.specs.declared.form.LogForm.TheVariants as form
use Rattle.log_lines.specs.Laws.{HasWord, LinesHaveForms}

of_command : (c : Command) → HasLine c → HasWord (line_of c)
of_command (command.Register id) p = (form.Register, refl)
of_command (command.Deregister k) p = (form.Deregister, refl)
of_command command.Nodes p = (form.Nodes, refl)
of_command (command.Add d) p = (form.Add, refl)
of_command (command.Release k) p = (form.Release, refl)
of_command (command.List r) p = (form.List, refl)
of_command (command.Count r) p = (form.Count, refl)
of_command (command.Dead id (ByPort kept)) p = (form.Dead, refl)
of_command _ p = absurd p

of_weak : (r : Role) → HasWord (begun_text (weak r))
of_weak role.Node = (form.WeakNodes, refl)
of_weak _ = (form.WeakList, refl)

of_begun : (b : Begun) → HasBegun b → HasWord (begun_text b)
of_begun (does (numbered c)) p = of_command c p
of_begun (does (deregister slot ticket)) p = (form.Deregister, refl)
of_begun (does (release r slot ticket)) p = (form.Release, refl)
of_begun (weak r) p = of_weak r

pub have_forms : LinesHaveForms
have_forms = record {
  begun = of_begun;
  given = λ s. (form.State, refl);
  service = λ l. (form.Service, refl);
}
