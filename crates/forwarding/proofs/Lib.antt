mod Flows
