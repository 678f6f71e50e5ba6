-- What the fields of a core say.
use Rattle.definitions.specs.Frames.{Core}
use Rattle.frames_view.specs.declared.core_fields.CoreFields.{CoreFields}
use Rattle.frames_view.specs.Readings.{elements}
use Rattle.frames_view.specs.Parts.{command_in}

-- the core of these fields
abbrev pub core_of_fields : CoreFields → Core
core_of_fields k = record {
  parent = k.parent.now;
  height = k.height;
  justify_height = k.justify_height;
  commands = elements (command_in k.replicas k.clients) k.count k.commands.now;
}
